use Rattle.std.proofs.Common.{rules, ◌+◌, ◌≤◌, length}
use Rattle.dataselect.proofs.GroupCuts.{next_within, next_len}
use Rattle.availability.specs.Spans.{merging_of}
use Rattle.availability.proofs.GroupsAdded.{next_added}
use Rattle.availability.proofs.Walked.{begin, grow}
use Rattle.availability.proofs.spans.add_spans_of.Goals as goal

pub slice_bounds-add_spans-end : goal.slice_bounds-add_spans-end
slice_bounds-add_spans-end g c =
    let t = g.V.Sight.touched c.args.sight.now in
    let q = c.args.query.now in
    next_len (merging_of q) (λ r. r.now.header) (begin t q) (grow t q) c.args.rows.now c.groups.begun c.group_len-len.result (search rules) c.group_len-len.ensures

pub overflow_add-begun : goal.overflow_add-begun
overflow_add-begun g c =
    let t = g.V.Sight.touched c.args.sight.now in
    let q = c.args.query.now in
    let le : c.groups.begun + c.group_len-len.result ≤ length c.args.rows.now = next_within (merging_of q) (λ r. r.now.header) (begin t q) (grow t q) c.args.rows.now c.groups.begun c.group_len-len.result (search rules) c.group_len-len.ensures in
    search rules

pub groups-preserved : goal.groups-preserved
groups-preserved g c =
    let t = g.V.Sight.touched c.args.sight.now in
    let q = c.args.query.now in
    record {
      spans = next_added (merging_of q) (λ r. r.now.header) (begin t q) (grow t q) c.args.rows.now c.groups.begun c.group_len-len.result (search rules) c.group_len-len.ensures c.groups.spans c.add_spans.new.spans _ c.in_ok-add_spans.ensures.ok c.groups.invariant.spans;
      within = next_within (merging_of q) (λ r. r.now.header) (begin t q) (grow t q) c.args.rows.now c.groups.begun c.group_len-len.result (search rules) c.group_len-len.ensures;
    }
