-- The records of the redo file read back.
use Rattle.std.proofs.Common.{◌≡◌, ◌<◌, ◌≤◌, ◌+◌, ◌-◌, ◌*◌, ◌++◌, ℕ, zero, suc, List, [], ◌∷◌, Bool, true, false, if◌then◌else◌, min, length, get_or, replicate, refl, sym, ◌∙◌, ap, arith, length-append, append_assoc}
use Rattle.std.specs.List.{flat_map}
use Rattle.std.specs.Str.{bytes_eq}
use Rattle.std.proofs.lemmas.Bool.{false_from_ne_true}
use Rattle.std.proofs.lemmas.Slice.Eq.{bytes_eq-Decides}
use Rattle.lif_model.specs.Numbers.{two_at}
use Rattle.lif_model.specs.Shelf.{piece}
use Rattle.lif_model.specs.Tape.{Tape, record_at}
use Rattle.lif_model.specs.Gate.{is_open}
use Rattle.lif_model.specs.declared.version.Version.{Version}
use Rattle.lif_model.specs.declared.version.Version.TheVariants.{One, Two}
use Rattle.lif_model.specs.Redo.{redo_text, most_targets, data_record, open_gate, targets_place, targets_record, are_targets, numbers_at, named_by, is_valid, Targets, Invalid, Valid, targets_of, Changes, targets_in, held_from, held_by}
use Rattle.lif_model.specs.Commit.{AreChanges, IsLoaded}
use Rattle.lif_model.specs.Made.{in_two}
use Rattle.lif_model.proofs.Made.{two_behind, two_first, piece_short}
use Rattle.lif_model.proofs.Redo.{targets_few, named_at, behind_at}

pub open_is_open : is_open open_gate ≡ true
unfolding open_gate piece is_open
open_is_open = refl

same_bytes : (bytes : List ℕ) → bytes_eq bytes bytes ≡ true
same_bytes bytes = (bytes_eq-Decides bytes bytes).1 refl

-- ---- targets records

-- the numbers after a front of n bytes
numbers_behind : (p q : List ℕ) (n i count : ℕ) → length p ≡ n → numbers_at (p ++ q) (n + i) count ≡ numbers_at q i count
numbers_behind p q n i zero e = refl
numbers_behind p q n i (suc count) e =
    let rest : numbers_at (p ++ q) (n + i + 2) count ≡ numbers_at q (i + 2) count = ap (λ (k : ℕ). numbers_at (p ++ q) k count) (omega arith) ∙ numbers_behind p q n (i + 2) count e in
    λ d. two_behind p q n i e d ∷ rest d

-- numbers of two bytes each, read back
numbers_back : (ts rest : List ℕ) → numbers_at (flat_map in_two ts ++ rest) 0 (length ts) ≡ ts
numbers_back [] rest = refl
numbers_back (t ∷ ts) rest =
    let more : numbers_at (in_two t ++ (flat_map in_two ts ++ rest)) 2 (length ts) ≡ ts = numbers_behind (in_two t) (flat_map in_two ts ++ rest) 2 0 (length ts) refl ∙ numbers_back ts rest in
    λ d. two_first t (flat_map in_two ts ++ rest) d ∷ more d

pub numbers_size : (ts : List ℕ) → length (flat_map in_two ts) ≡ 2 * length ts
numbers_size [] = refl
numbers_size (t ∷ ts) = omega (arith, numbers_size ts)

pub text_size : (version : Version) → length (redo_text version) ≡ 8
text_size One = refl
text_size Two = refl

pub most_fit : (version : Version) → most_targets version ≤ 32
most_fit One = omega arith
most_fit Two = omega arith

-- a targets record by its parts: the text, the count, the numbers and zeros
abbrev pub in_parts : Version → List ℕ → List ℕ
in_parts version ts = redo_text version ++ (in_two (length ts) ++ (flat_map in_two ts ++ replicate (246 - 2 * length ts) 0))

pub record_parts : (version : Version) (ts : List ℕ) → length ts ≤ most_targets version → targets_record version ts ≡ in_parts version ts
unfolding targets_record
record_parts version ts le =
    let numbers : List ℕ = flat_map in_two ts in
    let made : List ℕ = redo_text version ++ (in_two (length ts) ++ numbers) in
    let size : length made ≡ 10 + 2 * length ts = length-append (redo_text version) (in_two (length ts) ++ numbers) ∙ omega (arith, text_size version, numbers_size ts) in
    let rest : 256 - length made ≡ 246 - 2 * length ts = omega (arith, size) in
    piece_short made (omega (arith, size, le, most_fit version)) ∙ ap (λ (m : ℕ). made ++ replicate m 0) rest
    ∙ append_assoc (redo_text version) (in_two (length ts) ++ numbers) (replicate (246 - 2 * length ts) 0)

count_back : (version : Version) (ts : List ℕ) → length ts ≤ most_targets version → two_at (targets_record version ts) 8 ≡ length ts
count_back version ts le =
    let rest : List ℕ = flat_map in_two ts ++ replicate (246 - 2 * length ts) 0 in
    ap (λ (bs : List ℕ). two_at bs 8) (record_parts version ts le) ∙ two_behind (redo_text version) (in_two (length ts) ++ rest) 8 0 (text_size version) ∙ two_first (length ts) rest

-- the targets named by a targets record
pub named_back : (version : Version) (ts : List ℕ) → length ts ≤ most_targets version → named_by version (targets_record version ts) ≡ ts
named_back version ts le =
    let zeros : List ℕ = replicate (246 - 2 * length ts) 0 in
    let count : min (two_at (targets_record version ts) 8) (most_targets version) ≡ length ts = ap (λ (k : ℕ). min k (most_targets version)) (count_back version ts le) ∙ omega (arith, le) in
    ap (numbers_at (targets_record version ts) 10) count
    ∙ ap (λ (bs : List ℕ). numbers_at bs 10 (length ts)) (record_parts version ts le)
    ∙ numbers_behind (redo_text version) (in_two (length ts) ++ (flat_map in_two ts ++ zeros)) 8 2 (length ts) (text_size version)
    ∙ numbers_behind (in_two (length ts)) (flat_map in_two ts ++ zeros) 2 0 (length ts) refl
    ∙ numbers_back ts zeros

-- the number of the version, which is the eighth byte of its text
number_of : (version : Version) (ts : List ℕ) → get_or (targets_record version ts) 7 0 ≡ get_or (redo_text version) 7 0
unfolding targets_record piece
number_of One ts = refl
number_of Two ts = refl

-- the records of two versions differ
pub other_version : (ts us : List ℕ) → bytes_eq (targets_record Two ts) (targets_record One us) ≡ false
other_version ts us = false_from_ne_true _ (λ same.
    let byte : 0x32 ≡ 0x31 = sym (number_of Two ts) ∙ ap (λ (bs : List ℕ). get_or bs 7 0) ((bytes_eq-Decides (targets_record Two ts) (targets_record One us)).0 same) ∙ number_of One us in
    absurd (omega (arith, byte)))

valid_with : (version : Version) (n : ℕ) (bytes ts : List ℕ) → named_by version bytes ≡ ts → bytes_eq bytes (targets_record version ts) ≡ true → are_targets version n ts ≡ true → is_valid version n bytes ≡ true
unfolding is_valid
valid_with version n bytes ts named same are = rw (named, same, are) refl

-- where no record of version 1 stands, those of version 2 are read
abbrev or_two : ℕ → List ℕ → Targets
or_two n bytes = if is_valid Two n bytes then Valid Two (named_by Two bytes) else Invalid

not_one : (n : ℕ) (ts : List ℕ) → is_valid One n (targets_record Two ts) ≡ false
unfolding is_valid
not_one n ts = rw (other_version ts (named_by One (targets_record Two ts))) refl

-- a targets record that names targets is valid, and names these
pub reads_back : (version : Version) (n : ℕ) (ts : List ℕ) → are_targets version n ts ≡ true → targets_of n (targets_record version ts) ≡ Valid version ts
reads_back One n ts are =
    let bytes : List ℕ = targets_record One ts in
    let named = named_back One ts (targets_few One n ts are) in
    ap (λ (b : Bool). if b then Valid One (named_by One bytes) else or_two n bytes) (valid_with One n bytes ts named (same_bytes bytes) are) ∙ ap (Valid One) named
reads_back Two n ts are =
    let bytes : List ℕ = targets_record Two ts in
    let named = named_back Two ts (targets_few Two n ts are) in
    ap (λ (b : Bool). if b then Valid One (named_by One bytes) else or_two n bytes) (not_one n ts)
    ∙ ap (λ (b : Bool). if b then Valid Two (named_by Two bytes) else Invalid) (valid_with Two n bytes ts named (same_bytes bytes) are) ∙ ap (Valid Two) named

-- ---- a redo file as it is written

held_back : (version : Version) (n : ℕ) (x : Tape) (i : ℕ) (cs : Changes)
    → ((j : ℕ) → j < length cs → record_at x (data_record version n (i + j)) ≡ (get_or cs j (0, [])).1) → held_from version n x i (targets_in cs) ≡ cs
held_back version n x i [] same = refl
held_back version n x i (c ∷ cs) same =
    let here : record_at x (data_record version n i) ≡ c.1 = ap (λ (m : ℕ). record_at x (data_record version n m)) (omega arith) ∙ same 0 (omega arith) in
    let rest : held_from version n x (suc i) (targets_in cs) ≡ cs =
    held_back version n x (suc i) cs (λ j lt. ap (λ (m : ℕ). record_at x (data_record version n m)) (omega arith) ∙ same (suc j) (omega arith)) in
    λ d. (c.0, here d) ∷ rest d

-- a redo file with each new content in its data record, and the targets record, holds these changes
pub loaded_from : (version : Version) (n : ℕ) (cs : Changes) (x : Tape) → length x ≡ n → AreChanges version n cs
    → ((i : ℕ) → i < length cs → record_at x (data_record version n i) ≡ (get_or cs i (0, [])).1)
    → record_at x (targets_place n) ≡ targets_record version (targets_in cs) → IsLoaded version cs x
loaded_from version n cs x size are contents names =
    let named : targets_of n (record_at x (targets_place n)) ≡ Valid version (targets_in cs) = ap (targets_of n) names ∙ reads_back version n (targets_in cs) are in
    record {
      named = named_at n x size ∙ named;
      holds = behind_at n x size ∙ ap (held_by n x) named
          ∙ held_back version n x 0 cs (λ j lt. ap (λ (m : ℕ). record_at x (data_record version n m)) (omega arith) ∙ contents j lt);
    }
