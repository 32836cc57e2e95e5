-- The spans of the next group are added to others.
use Rattle.std.proofs.Common.{◌≡◌, ℕ, ◌+◌, ◌-◌, ◌<◌, List, ◌++◌, length, take, drop, sym, ap, ◌∙◌, arith, append_assoc}
use Rattle.std.proofs.lemmas.List.{take_all, length-drop, drop-drop}
use Rattle.list_laws.specs.Breaks.{made_of_each}
use Rattle.mseed_header.specs.declared.header.Header.{Header}
use Rattle.dataselect.specs.Runs.{run_len_by}
use Rattle.dataselect.specs.Spans.{Merging, runs_in_group}
use Rattle.dataselect.proofs.GroupCuts.{spans_of, other, group_cut}

module _ {X S : Type 0} (m : Merging) (header : X → Header) (begin : X → S) (grow : S → X → S) (xs : List X) (b n : ℕ) (begun : b < length xs)
    (len : n ≡ run_len_by (other m header begin grow) (take (length xs - b) (drop b xs))) where
  pub next_added : (old new whole : List S) → new ≡ old ++ made_of_each begin grow (runs_in_group m header (take n (take (length xs - b) (drop b xs))))
      → old ++ spans_of m header begin grow (drop b xs) ≡ whole → new ++ spans_of m header begin grow (drop (b + n) xs) ≡ whole
  next_added old new whole grown so_far =
      let left : take (length xs - b) (drop b xs) ≡ drop b xs = take_all (length xs - b) (drop b xs) (omega (arith, length-drop b xs)) in
      let some : 0 < length (drop b xs) = omega (arith, length-drop b xs) in
      let group = made_of_each begin grow (runs_in_group m header (take n (drop b xs))) in
      let rest = spans_of m header begin grow (drop n (drop b xs)) in
      (λ i. (grown ∙ ap (λ ys. old ++ made_of_each begin grow (runs_in_group m header (take n ys))) left) i ++ spans_of m header begin grow (sym (drop-drop n b xs) i))
      ∙ append_assoc old group rest
      ∙ ap (λ ss. old ++ ss) (sym (group_cut m header begin grow (drop b xs) n some (len ∙ ap (run_len_by (other m header begin grow)) left)))
      ∙ so_far
