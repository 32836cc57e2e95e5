-- How a walk from gate to gate goes on.
use Rattle.std.proofs.Common.{◌≡◌, ℕ, ◌≤◌, List, [], ◌∷◌, ◌++◌, length, take, drop, refl, sym, ◌∙◌, ap, subst, arith, take-append-drop}
use Rattle.std.proofs.lemmas.List.{drop_at, append-nil}
use Rattle.archive_journal.specs.Frames.{magic, front_of, IsSized, IsBroken, IsDamaged}
use Rattle.archive_journal.specs.Recovery.{IsClosedGate, IsOpenFrame, IsFound, IsWalked}
use Rattle.archive_journal.proofs.FrameLists.{all_push, front_of-push, length-front_of-push, gates_from-push}

-- before the first gate
pub walk_begins : (file : List ℕ) → take 16 file ≡ magic → IsWalked file [] 16
unfolding front_of
walk_begins file is = record {
  payloads = [];
  rest = drop 16 file;
  file_is = sym (take-append-drop 16 file) ∙ ap (λ (l : List ℕ). l ++ drop 16 file) is ∙ ap (λ (l : List ℕ). l ++ drop 16 file) (sym (append-nil magic));
  placed = record { sized = tt; offsets_are = refl; end_is = refl };
}

module _ (file offsets : List ℕ) (at : ℕ) (walked : IsWalked file offsets at) where
  -- what is left stands at the gate's offset
  rest_is : drop at file ≡ walked.rest
  rest_is = ap (drop at) walked.file_is ∙ drop_at (front_of walked.payloads) walked.rest at (sym walked.placed.end_is)

  -- one frame on
  pub walk_on : (next : ℕ) (offsets' : List ℕ) → IsOpenFrame (drop at file) at next → offsets' ≡ offsets ++ at ∷ [] → IsWalked file offsets' next
  walk_on next offsets' frame pushed =
      let ps = walked.payloads in record {
        payloads = ps ++ frame.payload ∷ [];
        rest = frame.behind;
        file_is = walked.file_is ∙ ap (λ (l : List ℕ). front_of ps ++ l) (sym rest_is ∙ frame.rest_is) ∙ sym (front_of-push ps frame.payload frame.behind);
        placed = record {
          sized = all_push IsSized ps frame.payload walked.placed.sized frame.sized;
          offsets_are = pushed ∙ (λ i. walked.placed.offsets_are i ++ walked.placed.end_is i ∷ []) ∙ sym (gates_from-push ps frame.payload);
          end_is = omega (arith, frame.next_is, walked.placed.end_is, length-front_of-push ps frame.payload);
        };
      }

  -- at a closed gate
  pub walk_ends : IsClosedGate (drop at file) → IsFound file offsets at
  walk_ends gate = record {
    payloads = walked.payloads;
    journal = record {
      gate = gate.gate;
      rest = gate.behind;
      file_is = walked.file_is ∙ ap (λ (l : List ℕ). front_of walked.payloads ++ l) (sym rest_is ∙ gate.rest_is);
      closed = gate.closed;
      sized = walked.placed.sized;
    };
    placed = walked.placed;
  }

  -- where there is neither
  pub walk_breaks : (offset : ℕ) → 17 ≤ length file → (offset ≡ at) × IsBroken (drop at file) → IsDamaged offset file
  walk_breaks offset long broken = record {
    payloads = walked.payloads;
    rest = walked.rest;
    file_is = walked.file_is;
    sized = walked.placed.sized;
    at_is = broken.0 ∙ walked.placed.end_is;
    broken = subst IsBroken rest_is broken.1;
    long = long;
  }
