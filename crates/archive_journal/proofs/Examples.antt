-- Worked examples of the definitions.
use Rattle.std.proofs.Common.{◌≡◌, inl, inr, ℕ, List, [], ◌∷◌, ◌++◌, take, true, false, refl, codes}
use Rattle.archive_journal.specs.Frames.{front_of, is_whole, holding, no_journal, damaged_at, reading_of, HoldsWithOrWithout}
use Rattle.archive_journal.specs.Journal.{gate_of, gates_from, first_payloads, added_to}

-- a journal without payloads, and one with the payload `abc`
empty : List ℕ
empty = 0x46 ∷ 0x44 ∷ 0x53 ∷ 0x4e ∷ 0x41 ∷ 0x52 ∷ 0x43 ∷ 0x48 ∷ 0x49 ∷ 0x56 ∷ 0x45 ∷ 0x2d ∷ 0x30 ∷ 0x30 ∷ 0x30 ∷ 0x31 ∷ 0x00 ∷ []

abc : List ℕ
abc = 0x46 ∷ 0x44 ∷ 0x53 ∷ 0x4e ∷ 0x41 ∷ 0x52 ∷ 0x43 ∷ 0x48 ∷ 0x49 ∷ 0x56 ∷ 0x45 ∷ 0x2d ∷ 0x30 ∷ 0x30 ∷ 0x30 ∷ 0x31 ∷ 0x01 ∷ 0x00 ∷ 0x00 ∷ 0x00 ∷ 0x03 ∷ 0x61 ∷ 0x62 ∷ 0x63 ∷ 0x00 ∷ []

payload : List ℕ
payload = codes "abc"

empty_is : empty ≡ front_of [] ++ 0 ∷ []
unfolding empty front_of
empty_is = refl

abc_is : abc ≡ front_of (payload ∷ []) ++ 0 ∷ []
unfolding abc payload front_of
abc_is = refl

-- a commit leads from the first to the second
commit_adds : added_to empty (gate_of [] 1) payload ≡ abc
unfolding empty abc payload front_of
commit_adds = refl

-- what they say
empty_says : reading_of empty ≡ holding []
unfolding empty reading_of
empty_says = refl

abc_says : reading_of abc ≡ holding (payload ∷ [])
unfolding abc payload reading_of
abc_says = refl

-- a commit that stopped before the gate was opened, and one that was done
before : HoldsWithOrWithout [] payload empty
before = inl empty_says

after : HoldsWithOrWithout [] payload abc
after = inr abc_says

-- the first 16 bytes are no journal; without its last gate the file is damaged there, and without its last
-- payload byte at the frame's gate
magic_says : reading_of (take 16 abc) ≡ no_journal
unfolding abc reading_of
magic_says = refl

cut_gate : reading_of (take 24 abc) ≡ damaged_at 24
unfolding abc reading_of
cut_gate = refl

cut_payload : reading_of (take 23 abc) ≡ damaged_at 16
unfolding abc reading_of
cut_payload = refl

-- what follows a closed gate isn't read
residue : reading_of (empty ++ 0x01 ∷ 0xff ∷ []) ≡ holding []
unfolding empty reading_of
residue = refl

-- a length of 0, one over the limit, and one past the end
lengths : (is_whole (0x00 ∷ 0x00 ∷ 0x00 ∷ 0x00 ∷ codes "abc") ≡ false) × (is_whole (0x00 ∷ 0x20 ∷ 0x00 ∷ 0x01 ∷ []) ≡ false) × (is_whole (0x00 ∷ 0x00 ∷ 0x00 ∷ 0x02 ∷ 0x61 ∷ []) ≡ false) × (is_whole (0x00 ∷ 0x00 ∷ 0x00 ∷ 0x01 ∷ 0x61 ∷ []) ≡ true)
lengths = (refl, refl, refl, refl)

-- where the gates of three payloads stand
gates : gates_from 16 (codes "abc" ∷ codes "d" ∷ codes "efgh" ∷ []) ≡ 16 ∷ 24 ∷ 30 ∷ []
gates = refl

third_gate : gate_of (codes "abc" ∷ codes "d" ∷ codes "efgh" ∷ []) 3 ≡ 30
unfolding front_of
third_gate = refl

-- the first payload of that file
first : first_payloads 1 abc ≡ payload ∷ []
unfolding abc payload reading_of
first = refl
