use Rattle.query_words.proofs.AvailFound.{post_or_fault}
use Rattle.query_words.specs.AvailPost.{IsAvailPost, IsAvailPostFault}
use Rattle.centre_desk.specs.Queries.{avail_sent}
use Rattle.centre_desk.proofs.Readers.{is_answer}
use Rattle.centre_desk.proofs.queries.avail_sent.Goals as goal

pub returns : goal.returns
unfolding avail_sent
returns c = is_answer (IsAvailPost c.args.method c.args.body.now) (IsAvailPostFault c.args.method c.args.body.now) (post_or_fault c.args.method c.args.body.now) c.avail_post.result c.avail_post.ensures.exact
