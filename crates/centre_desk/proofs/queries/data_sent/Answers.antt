use Rattle.query_words.proofs.PostFound.{post_or_fault}
use Rattle.query_words.specs.DataPost.{IsDataPost, IsPostFault}
use Rattle.centre_desk.specs.Queries.{data_sent}
use Rattle.centre_desk.proofs.Readers.{is_answer}
use Rattle.centre_desk.proofs.queries.data_sent.Goals as goal

pub returns : goal.returns
unfolding data_sent
returns c = is_answer (IsDataPost c.args.body.now) (IsPostFault c.args.body.now) (post_or_fault c.args.body.now) c.data_post.result c.data_post.ensures.exact
