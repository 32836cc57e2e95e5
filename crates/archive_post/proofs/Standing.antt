-- For which history an intake stands, from call to call.
use Rattle.std.proofs.Common.{◌≡◌, ◌∙◌, ℕ, ◌+◌, ◌-◌, Bool, true, false, List, [], ◌∷◌, ◌++◌, length, refl, sym, ap, subst, Option, None, Some, is_some}
use Rattle.std.proofs.lemmas.List.{append-nil, length_push}
use Rattle.disk_model.specs.View.{DiskView, WhereTold, is_told}
use Rattle.archive_entry.specs.declared.entry.Entry.{Entry}
use Rattle.archive_log.specs.Archive.{Archived}
use Rattle.archive_state.specs.Admits.{IsAdmit}
use Rattle.archive_state.specs.Lawful.{IsLawful, is_next}
use Rattle.archive_state.specs.declared.admit.Admit.{Admit}
use Rattle.archive_post.specs.Intake.{StandsFor}
use Rattle.archive_post.specs.Waiting.{are_both, committed, noted_of, waits}
use Rattle.archive_post.specs.declared.kept.Intake.{Intake}
use Rattle.archive_post.proofs.Growth.{lawful_flush}

none_noted : (b : Bool) → noted_of b None ≡ []
none_noted true = refl
none_noted false = refl

-- nothing waits
pub fresh : {D : Type 0} (view : D → DiskView) (i : Intake D) (h : List Entry) → i.waiting ≡ None → IsLawful h → IsAdmit i.admit h → i.archive.count ≡ length h → WhereTold (view i.archive.disk) (i.archive.history ≡ h) → StandsFor view i h
fresh view i h none lawful admits counted history =
    let all : h ≡ committed h i.waiting = sym (append-nil h) ∙ ap (committed h) (sym none) in
    record {
      lawful = lawful;
      waits = ap (waits h) none;
      judges = subst (IsAdmit i.admit) (sym (append-nil h) ∙ ap (λ (l : List Entry). h ++ l) (sym (none_noted i.noted)) ∙ ap (λ (o : Option Entry). h ++ noted_of i.noted o) (sym none)) admits;
      counted = counted ∙ ap length all;
      history = λ told. history told ∙ all;
      apart = ap (λ (o : Option Entry). are_both o i.archive.hand) none;
    }

module _ {D : Type 0} (view : D → DiskView) (i : Intake D) (h : List Entry) (stands : StandsFor view i h) where
  -- what waits is given away
  pub taken : (o : Option Entry) → o ≡ None → i.noted ≡ true → StandsFor view (record i { waiting = o }) (committed h i.waiting)
  taken o none noted =
      let all = committed h i.waiting in
      let judged : h ++ noted_of i.noted i.waiting ≡ all ++ noted_of i.noted None =
      ap (λ (b : Bool). h ++ noted_of b i.waiting) noted ∙ sym (append-nil all) ∙ ap (λ (l : List Entry). all ++ l) (sym (none_noted i.noted)) in
      subst (λ (x : Option Entry). StandsFor view (record i { waiting = x }) all) (sym none)
      (record {
        lawful = lawful_flush h i.waiting stands.lawful stands.waits;
        waits = refl;
        judges = subst (IsAdmit i.admit) judged stands.judges;
        counted = stands.counted ∙ ap length (sym (append-nil all));
        history = λ told. stands.history told ∙ sym (append-nil all);
        apart = refl;
      })

  module _ (none : i.waiting ≡ None) where
    all_taken : committed h i.waiting ≡ h
    all_taken = ap (committed h) none ∙ append-nil h

    judges_all : IsAdmit i.admit h
    judges_all = subst (IsAdmit i.admit) (ap (λ (o : Option Entry). h ++ noted_of i.noted o) none ∙ ap (λ (l : List Entry). h ++ l) (none_noted i.noted) ∙ append-nil h) stands.judges

    -- an entry was committed, and waits
    pub added : (new : Archived D) (admit : Admit) (e given : Entry) (noted : Bool) → i.archive.stopped ≡ false → is_some i.archive.hand ≡ i.archive.stopped → is_next h e ≡ true → given ≡ e
        → new ≡ record i.archive { disk = new.disk; history = new.history; count = i.archive.count + 1; spare = i.archive.spare - 1 } → is_told (view new.disk) ≡ is_told (view i.archive.disk)
        → WhereTold (view i.archive.disk) (new.history ≡ i.archive.history ++ e ∷ []) → ((k : List Entry) → IsAdmit i.admit k → is_next k given ≡ true → IsAdmit admit (k ++ noted_of noted (Some given)))
        → StandsFor view (record { archive = new; admit = admit; waiting = Some given; noted = noted }) h
    added new admit e given noted running hand_is next back grown tells more takes =
        let next_given : is_next h given ≡ true = ap (is_next h) back ∙ next in
        record {
          lawful = stands.lawful;
          waits = next_given;
          judges = takes h judges_all next_given;
          counted = ap (λ (a : Archived D). a.count) grown ∙ ap (λ (n : ℕ). n + 1) (stands.counted ∙ ap length all_taken) ∙ sym (length_push h given);
          history = λ told.
              let here = sym tells ∙ told in
              more here ∙ ap (λ (l : List Entry). l ++ e ∷ []) (stands.history here ∙ all_taken) ∙ ap (λ (x : Entry). h ++ x ∷ []) (sym back);
          apart = ap (λ (a : Archived D). is_some a.hand) grown ∙ hand_is ∙ running;
        }
