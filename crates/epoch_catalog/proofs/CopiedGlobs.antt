-- The pattern lists of lines: each is that of its text.
use Rattle.std.proofs.Common.{◌≡◌, List, ap, ◌∙◌}
use Rattle.exact_time.specs.declared.moment.Moment.{Moment}
use Rattle.epochs.specs.declared.key.Key.TheVariants.{Rst, Grt, Wdr}
use Rattle.epochs.specs.declared.line.Restriction.{Restriction}
use Rattle.epochs.specs.declared.line.Grant.{Grant}
use Rattle.epochs.specs.declared.line.Withdrawal.{Withdrawal}
use Rattle.epochs.specs.declared.parts.Glob.{Glob}
use Rattle.epochs.specs.declared.parts.Globs.{Globs}
use Rattle.epochs.specs.Spellable.{IsSpellable}
use Rattle.epochs.specs.Keys.{deletion_line}
use Rattle.epochs.specs.Kinds.{Text}
use Rattle.epochs.specs.Values.{restriction_line, grant_line, withdrawal_line}
use Rattle.epochs.proofs.SpellableWord.{spellable_has}
use Rattle.epoch_catalog.specs.Globs.{AreRead}

abbrev pub glob_of : Text → List Text → Glob
glob_of text list = record { text = text; list = list }

pub same_glob : (text : Text) (list : List Text) (glob : Glob) → text ≡ glob.text → list ≡ glob.list → glob_of text list ≡ glob
same_glob text list glob p q = ap (λ t. glob_of t list) p ∙ ap (glob_of glob.text) q

pub of_restriction : (r : Restriction) → AreRead r.channels
of_restriction r =
    let v = (spellable_has (restriction_line r.channels r.times) r.spellable).values_are in
    record { network_is = v.0; station_is = v.1.0; location_is = v.1.1.0; channel_is = v.1.1.1.0 }

pub of_grant : (g : Grant) → AreRead g.channels
of_grant g =
    let v = (spellable_has (grant_line g.user g.channels g.times) g.spellable).values_are in
    record { network_is = v.1.0; station_is = v.1.1.0; location_is = v.1.1.1.0; channel_is = v.1.1.1.1.0 }

pub of_withdrawal : (w : Withdrawal) → AreRead w.channels
of_withdrawal w =
    let v = (spellable_has (withdrawal_line w.channels w.times w.upto) w.spellable).values_are in
    record { network_is = v.0; station_is = v.1.0; location_is = v.1.1.0; channel_is = v.1.1.1.0 }

pub of_restriction_key : (channels : Globs) (start : Moment) → IsSpellable (deletion_line (Rst channels start)) → AreRead channels
of_restriction_key channels start h =
    let v = (spellable_has (deletion_line (Rst channels start)) h).values_are in
    record { network_is = v.0; station_is = v.1.0; location_is = v.1.1.0; channel_is = v.1.1.1.0 }

pub of_grant_key : (user : Text) (channels : Globs) (start : Moment) → IsSpellable (deletion_line (Grt user channels start)) → AreRead channels
of_grant_key user channels start h =
    let v = (spellable_has (deletion_line (Grt user channels start)) h).values_are in
    record { network_is = v.1.0; station_is = v.1.1.0; location_is = v.1.1.1.0; channel_is = v.1.1.1.1.0 }

pub of_withdrawal_key : (channels : Globs) (start : Moment) → IsSpellable (deletion_line (Wdr channels start)) → AreRead channels
of_withdrawal_key channels start h =
    let v = (spellable_has (deletion_line (Wdr channels start)) h).values_are in
    record { network_is = v.0; station_is = v.1.0; location_is = v.1.1.0; channel_is = v.1.1.1.0 }
