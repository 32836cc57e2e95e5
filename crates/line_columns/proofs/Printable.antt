-- What the type of a line keeps of its codes and moments suffices to print them.
use Rattle.std.proofs.Common.{◌≡◌, inl, inr, ℕ, ◌<◌, true, ◌==◌, [], ◌∷◌, Option, Some, None, IsTrue, ◌⊎◌, ℤ, sym, arith}
use Rattle.std.specs.Char.{is_ascii_alphanumeric}
use Rattle.std.specs.List.{list_all}
use Rattle.std.specs.Str.{IsAscii}
use Rattle.std.proofs.lemmas.Bool.{and_parts, or_cases, true≢false}
use Rattle.std.proofs.lemmas.Bool.Decides.{nat_tests}
use Rattle.std.proofs.lemmas.Int.{ints}
use Rattle.std.proofs.lemmas.Str.Ascii.{IsAscii-nil, IsAscii-cons}
use Rattle.exact_time.specs.Written.{IsNameable, IsWritable}
use Rattle.channel_globs.specs.PatternText.{space}
use Rattle.channel_globs.specs.declared.nslc.Part.{Part}
use Rattle.channel_globs.specs.declared.nslc.Part.TheVariants.{Location}
use Rattle.epochs.specs.Kinds.{Text}
use Rattle.epochs.specs.Fields.{is_code_text}
use Rattle.epochs.specs.Spellable.{is_code, is_blank_code, IfThere}
use Rattle.line_columns.specs.Columns.{IsWritableEnd}

low : (c : ℕ) → is_ascii_alphanumeric c ≡ true → c < 128
low c h = grind (arith, nat_tests)

all_low : (text : Text) → list_all is_ascii_alphanumeric text ≡ true → IsAscii text
all_low [] h = IsAscii-nil
all_low (c ∷ text) h =
    let both = and_parts (is_ascii_alphanumeric c) (list_all is_ascii_alphanumeric text) h in
    IsAscii-cons c text (low c both.0) (all_low text both.1)

space_low : (c : ℕ) → (c == space) ≡ true → c < 128
space_low c h = grind (arith, nat_tests)

blank_ascii : (part : Part) (text : Text) → is_blank_code part text ≡ true → IsAscii text
blank_ascii Location (a ∷ b ∷ []) h =
    let both = and_parts (a == space) (b == space) h in
    IsAscii-cons a (b ∷ []) (space_low a both.0) (IsAscii-cons b [] (space_low b both.1) IsAscii-nil)
blank_ascii part text h = absurd (true≢false (sym h))

pub code_ascii : (part : Part) (text : Text) → IsTrue (is_code part text) → IsAscii text
code_ascii part text h = by_case (or_cases (is_code_text part text) (is_blank_code part text) h)
  where
    by_case : (is_code_text part text ≡ true) ⊎ (is_blank_code part text ≡ true) → IsAscii text
    by_case (inl k) = all_low text (and_parts _ (list_all is_ascii_alphanumeric text) k).1
    by_case (inr k) = blank_ascii part text k

pub writable : (micros : ℤ) → IsNameable micros → IsWritable micros
writable micros h = record { from = omega (arith, ints, h.from); before = omega (arith, ints, h.before) }

pub writable_end : (stop : Option ℤ) → IfThere IsNameable stop → IsWritableEnd stop
writable_end None h = tt
writable_end (Some micros) h = writable micros h
