-- The slots of a tape: each has 32 bytes, none ends the directory, and they fit into it.
use Rattle.std.proofs.Common.{◌≡◌, ◌<◌, ◌≤◌, ◌+◌, ◌-◌, ◌*◌, ◌/◌, ◌%◌, ◌++◌, ℕ, zero, suc, List, [], ◌∷◌, Bool, true, false, not, if◌then◌else◌, Some, length, get_or, set, take, drop, inl, inr, refl, sym, ◌∙◌, ap, subst, arith, length-append, length-take, length-drop, length-set, get_or-set_other, get_or-set_same, get_or-take}
use Rattle.std.specs.List.{prefix_len}
use Rattle.std.proofs.lemmas.Bool.{cases_eq, cases_lt, lt-ltb, le-ltb}
use Rattle.std.proofs.lemmas.List.{get_or_append_left, get_or-append_right}
use Rattle.lif_model.specs.Tape.{Tape, IsTape, record_at}
use Rattle.lif_model.specs.Gate.{gate_of}
use Rattle.lif_model.specs.Header.{directory_start, directory_length, directory_end, capacity_of}
use Rattle.lif_model.specs.Directory.{is_end, entry_at, entries_of, entries_from, before_end, slots_of}
use Rattle.lif_model.specs.declared.version.Version.{Version}
use Rattle.lif_model.specs.declared.version.Version.TheVariants.{One, Two}
use Rattle.lif_model.specs.Redo.{redo_length, most_targets, data_record, zeros, Changes, targets_in, held_from, held_by, redo_of, changed, settled_by, settled}
use Rattle.lif_model.specs.Legal.{is_legal, IsLegal}
use Rattle.lif_model.specs.Volume.{files_of, Volume, IsVolume, volume_if, volume_in, volume_of}
use Rattle.lif_model.proofs.Legal.{legal_tells}
use Rattle.lif_model.proofs.Slots.{readable_tells}
use Rattle.lif_model.proofs.Redo.{targets_few, armed_here, changes_long, loaded_are}

-- ---- what holds of each entry

abbrev pub Every : (List ℕ → Type 0) → List (List ℕ) → Type 0
Every P [] = Unit {0}
Every P (x ∷ xs) = P x × Every P xs

pub every_at : (P : List ℕ → Type 0) (xs : List (List ℕ)) (i : ℕ) → Every P xs → i < length xs → P (get_or xs i [])
every_at P [] i every lt = absurd (omega arith)
every_at P (x ∷ xs) zero every lt = every.0
every_at P (x ∷ xs) (suc i) every lt = every_at P xs i every.1 (omega arith)

every_append : (P : List ℕ → Type 0) (xs ys : List (List ℕ)) → Every P xs → Every P ys → Every P (xs ++ ys)
every_append P [] ys first second = second
every_append P (x ∷ xs) ys first second = (first.0, every_append P xs ys first.1 second)

every_take : (P : List ℕ → Type 0) (n : ℕ) (xs : List (List ℕ)) → Every P xs → Every P (take n xs)
every_take P zero xs every = tt
every_take P (suc n) [] every = tt
every_take P (suc n) (x ∷ xs) every = (every.0, every_take P n xs every.1)

-- ---- the entries of records

pub entry_size : (bytes : List ℕ) (k : ℕ) → length bytes ≡ 256 → k < 8 → length (entry_at bytes k) ≡ 32
unfolding entry_at
entry_size bytes k size lt = omega (arith, length-take 32 (drop (32 * k) bytes), length-drop (32 * k) bytes, size, lt)

sizes_of : (bytes : List ℕ) → length bytes ≡ 256 → Every (λ e. length e ≡ 32) (entries_of bytes)
unfolding entries_of
sizes_of bytes size = (
  entry_size bytes 0 size (omega arith),
  (entry_size bytes 1 size (omega arith), (entry_size bytes 2 size (omega arith), (entry_size bytes 3 size (omega arith), (entry_size bytes 4 size (omega arith), (entry_size bytes 5 size (omega arith), (entry_size bytes 6 size (omega arith), (entry_size bytes 7 size (omega arith), tt))))))),
)

pub eight : (bytes : List ℕ) → length (entries_of bytes) ≡ 8
unfolding entries_of
eight bytes = refl

pub entries_count : (t : Tape) (k n : ℕ) → length (entries_from t k n) ≡ 8 * n
entries_count t k zero = refl
entries_count t k (suc n) = length-append (entries_of (record_at t k)) (entries_from t (suc k) n) ∙ omega (arith, eight (record_at t k), entries_count t (suc k) n)

entries_sizes : (t : Tape) (k n : ℕ) → ((j : ℕ) → k ≤ j → j < k + n → length (record_at t j) ≡ 256) → Every (λ e. length e ≡ 32) (entries_from t k n)
entries_sizes t k zero whole = tt
entries_sizes t k (suc n) whole = every_append (λ e. length e ≡ 32) (entries_of (record_at t k)) (entries_from t (suc k) n)
    (sizes_of (record_at t k) (whole k (omega arith) (omega arith))) (entries_sizes t (suc k) n (λ j le lt. whole j (omega arith) (omega arith)))

before_kinds : (xs : List (List ℕ)) → Every (λ e. is_end e ≡ false) (before_end xs)
before_kinds [] = tt
before_kinds (x ∷ xs) = go (is_end x) refl (before_kinds xs)
  where
    go : (b : Bool) → is_end x ≡ b → Every (λ e. is_end e ≡ false) (before_end xs)
        → Every (λ e. is_end e ≡ false) (take (if not b then 1 + prefix_len (λ e. not (is_end e)) xs else 0) (x ∷ xs))
    go true e rest = tt
    go false e rest =
        let step : suc (prefix_len (λ e. not (is_end e)) xs) ≡ 1 + prefix_len (λ e. not (is_end e)) xs = omega arith in
        subst (λ (m : ℕ). Every (λ e. is_end e ≡ false) (take m (x ∷ xs))) step (e, rest)

-- at most as many slots as the directory has room for
pub slots_room : (t : Tape) → length (slots_of t) ≤ capacity_of (record_at t 0)
slots_room t =
    let header = record_at t 0 in
    let all = entries_from t (directory_start header) (directory_length header) in
    omega (arith, length-take (prefix_len (λ e. not (is_end e)) all) all, entries_count t (directory_start header) (directory_length header))

-- no slot ends the directory
pub slots_kinds : (t : Tape) (i : ℕ) → i < length (slots_of t) → is_end (get_or (slots_of t) i []) ≡ false
slots_kinds t i lt = let header = record_at t 0 in every_at (λ e. is_end e ≡ false) (slots_of t) i (before_kinds (entries_from t (directory_start header) (directory_length header))) lt

-- each slot of a directory within the tape has 32 bytes
pub slots_sizes : (n : ℕ) (t : Tape) (i : ℕ) → IsTape n t → directory_end (record_at t 0) ≤ n → i < length (slots_of t) → length (get_or (slots_of t) i []) ≡ 32
slots_sizes n t i is within lt =
    let header = record_at t 0 in
    let all = entries_from t (directory_start header) (directory_length header) in
    every_at (λ e. length e ≡ 32) (slots_of t) i (every_take (λ e. length e ≡ 32) (prefix_len (λ e. not (is_end e)) all) all
    (entries_sizes t (directory_start header) (directory_length header) (λ j le less. is.bytes j (omega (arith, less, within))))) lt

-- ---- entry by entry

entry_in : (bytes : List ℕ) (k : ℕ) → k < 8 → get_or (entries_of bytes) k [] ≡ entry_at bytes k
unfolding entries_of
entry_in bytes zero lt = refl
entry_in bytes (suc zero) lt = refl
entry_in bytes (suc (suc zero)) lt = refl
entry_in bytes (suc (suc (suc zero))) lt = refl
entry_in bytes (suc (suc (suc (suc zero)))) lt = refl
entry_in bytes (suc (suc (suc (suc (suc zero))))) lt = refl
entry_in bytes (suc (suc (suc (suc (suc (suc zero)))))) lt = refl
entry_in bytes (suc (suc (suc (suc (suc (suc (suc zero))))))) lt = refl
entry_in bytes (suc (suc (suc (suc (suc (suc (suc (suc k)))))))) lt = absurd (omega arith)

-- entry k of a directory
pub entry_of_all : (t : Tape) (s n k : ℕ) → k < 8 * n → get_or (entries_from t s n) k [] ≡ entry_at (record_at t (s + k / 8)) (k % 8)
entry_of_all t s zero k lt = absurd (omega arith)
entry_of_all t s (suc n) k lt = elim (cases_lt k 8) [
  | inl less ↦
      let row : s ≡ s + k / 8 = omega arith in
      let column : k ≡ k % 8 = omega arith in
      get_or_append_left (entries_of (record_at t s)) (entries_from t (suc s) n) [] k (omega (arith, eight (record_at t s))) ∙ entry_in (record_at t s) k less ∙ (λ i. entry_at (record_at t (row i)) (column i))
  | inr more ↦
      let row : suc s + (k - 8) / 8 ≡ s + k / 8 = omega (arith, more) in
      let column : (k - 8) % 8 ≡ k % 8 = omega (arith, more) in
      get_or-append_right (entries_of (record_at t s)) (entries_from t (suc s) n) 8 k [] (eight (record_at t s)) more ∙ entry_of_all t (suc s) n (k - 8) (omega arith) ∙ (λ i. entry_at (record_at t (row i)) (column i))
]

-- the slots are the first m entries, where none of these ends the directory and the next one does or there is none
pub before_end_at : (entries : List (List ℕ)) (m : ℕ) → m ≤ length entries → ((k : ℕ) → k < m → is_end (get_or entries k []) ≡ false) → (m < length entries → is_end (get_or entries m []) ≡ true)
    → before_end entries ≡ take m entries
before_end_at [] zero le live ends = refl
before_end_at [] (suc m) le live ends = absurd (omega arith)
before_end_at (x ∷ xs) zero le live ends = go (is_end x) (ends (omega arith))
  where
    go : (b : Bool) → b ≡ true → take (if not b then 1 + prefix_len (λ e. not (is_end e)) xs else 0) (x ∷ xs) ≡ []
    go true e = refl
    go false e = cc
before_end_at (x ∷ xs) (suc m) le live ends = go (is_end x) (live 0 (omega arith)) (before_end_at xs m (omega arith) (λ k lt. live (suc k) (omega arith)) (λ lt. ends (omega arith)))
  where
    go : (b : Bool) → b ≡ false → before_end xs ≡ take m xs → take (if not b then 1 + prefix_len (λ e. not (is_end e)) xs else 0) (x ∷ xs) ≡ x ∷ take m xs
    go true e rest = cc
    go false e rest =
        let step : 1 + prefix_len (λ e. not (is_end e)) xs ≡ suc (prefix_len (λ e. not (is_end e)) xs) = omega arith in
        ap (λ (n : ℕ). take n (x ∷ xs)) step ∙ ap (λ (ys : List (List ℕ)). x ∷ ys) rest

-- slot k of a tape is entry k of its directory
pub slot_at : (t : Tape) (k : ℕ) → k < length (slots_of t) → get_or (slots_of t) k [] ≡ entry_at (record_at t (directory_start (record_at t 0) + k / 8)) (k % 8)
slot_at t k lt =
    let header = record_at t 0 in
    let all = entries_from t (directory_start header) (directory_length header) in
    let short = length-take (prefix_len (λ e. not (is_end e)) all) all in
    get_or-take (prefix_len (λ e. not (is_end e)) all) all k [] (omega (arith, short))
    ∙ entry_of_all t (directory_start header) (directory_length header) k (omega (arith, short, entries_count t (directory_start header) (directory_length header)))

-- ---- the settled tape is a tape

-- each new content is a record
abbrev pub AreWhole : Changes → Type 0
AreWhole [] = Unit {0}
AreWhole (c ∷ cs) = (length c.1 ≡ 256) × AreWhole cs

pub set_shape : (n : ℕ) (t : Tape) (k : ℕ) (bytes : List ℕ) → IsTape n t → length bytes ≡ 256 → IsTape n (set t k bytes)
set_shape n t k bytes is size = record {
  records = length-set t k bytes ∙ is.records;
  bytes = λ j lt. elim (cases_eq j k) [
    | inl e ↦ ap length (ap (λ (m : ℕ). get_or (set t k bytes) m []) e ∙ get_or-set_same t k bytes [] (omega (arith, e, lt, is.records))) ∙ size
    | inr ne ↦ ap length (get_or-set_other t k j bytes [] ne) ∙ is.bytes j lt
  ];
}

pub changed_shape : (n : ℕ) (cs : Changes) (t : Tape) → IsTape n t → AreWhole cs → IsTape n (changed cs t)
changed_shape n [] t is whole = is
changed_shape n (c ∷ cs) t is whole = changed_shape n cs (set t c.0 c.1) (set_shape n t c.0 c.1 is whole.0) whole.1

pub data_within : (version : Version) (n i : ℕ) → redo_length version < n → i < most_targets version → data_record version n i < n
data_within One n i long lt = omega arith
data_within Two n i long lt = elim (cases_lt i 30) [
  | inl few ↦ rw (lt-ltb i 30 few) (omega arith)
  | inr more ↦ rw (le-ltb i 30 more) (omega arith)
]

held_whole : (version : Version) (n : ℕ) (t : Tape) (i : ℕ) (ts : List ℕ) → IsTape n t → redo_length version < n → i + length ts ≤ most_targets version → AreWhole (held_from version n t i ts)
held_whole version n t i [] is long le = tt
held_whole version n t i (target ∷ ts) is long le = (is.bytes (data_record version n i) (data_within version n i long (omega arith)), held_whole version n t (suc i) ts is long (omega arith))

zeros_size : length zeros ≡ 256
unfolding zeros
zeros_size = refl

pub settled_shape : (n : ℕ) (t : Tape) → IsTape n t → IsTape n (settled t)
settled_shape n t is = go (redo_of t) refl
  where
    go : (cs : Changes) → redo_of t ≡ cs → IsTape n (settled_by cs t)
    go [] e = is
    go (c ∷ cs) e =
        let armed = armed_here t c cs e in
        let are = loaded_are armed.0 (c ∷ cs) t armed.1.loaded in
        let long = changes_long armed.0 (length t) (c ∷ cs) are in
        let few : length (targets_in (c ∷ cs)) ≤ most_targets armed.0 = targets_few armed.0 (length t) (targets_in (c ∷ cs)) are in
        let held : held_from armed.0 (length t) t 0 (targets_in (c ∷ cs)) ≡ c ∷ cs = sym (ap (held_by (length t) t) armed.1.loaded.named) ∙ armed.1.loaded.holds in
        let whole : AreWhole (c ∷ cs) = subst AreWhole held (subst (λ (m : ℕ). AreWhole (held_from armed.0 m t 0 (targets_in (c ∷ cs)))) (sym is.records)
        (held_whole armed.0 n t 0 (targets_in (c ∷ cs)) is (omega (arith, long.1, is.records)) (omega (arith, few)))) in
        set_shape n (changed (c ∷ cs) t) (gate_of (length t)) zeros (changed_shape n (c ∷ cs) t is whole) zeros_size

-- ---- the volume of a tape

same_some : (v w : Volume) → Some v ≡ Some w → v ≡ w
same_some v w e = cc

-- where the volume of a settled tape comes from
pub volume_tells : (u : Tape) (v : Volume) → volume_in u ≡ Some v → (is_legal u ≡ true) × (v.header ≡ record_at u 0) × (v.slots ≡ slots_of u) × (v.files ≡ files_of u (slots_of u))
volume_tells u v e = go (is_legal u) refl e
  where
    go : (b : Bool) → is_legal u ≡ b → volume_if b u ≡ Some v → (is_legal u ≡ true) × (v.header ≡ record_at u 0) × (v.slots ≡ slots_of u) × (v.files ≡ files_of u (slots_of u))
    go false legal none = cc
    go true legal some =
        let is : v ≡ record { header = record_at u 0; slots = slots_of u; files = files_of u (slots_of u) } = sym (same_some (record { header = record_at u 0; slots = slots_of u; files = files_of u (slots_of u) }) v some) in
        (legal, ap (λ (w : Volume). w.header) is, ap (λ (w : Volume). w.slots) is, ap (λ (w : Volume). w.files) is)

pub volume_from : (u : Tape) → is_legal u ≡ true → volume_in u ≡ Some (record { header = record_at u 0; slots = slots_of u; files = files_of u (slots_of u) })
volume_from u legal = ap (λ (b : Bool). volume_if b u) legal

-- of a settled tape
pub volume_in_is : (n : ℕ) (u : Tape) (v : Volume) → IsTape n u → volume_in u ≡ Some v → IsVolume n v
volume_in_is n u v is e = go (is_legal u) refl e
  where
    go : (b : Bool) → is_legal u ≡ b → volume_if b u ≡ Some v → IsVolume n v
    go false legal none = cc
    go true legal some =
        let reads : IsLegal (length u) (record_at u 0) (slots_of u) = legal_tells (length u) (record_at u 0) (slots_of u) legal in
        let readable = readable_tells (length u) (record_at u 0) reads.readable in
        subst (IsVolume n) (same_some (record { header = record_at u 0; slots = slots_of u; files = files_of u (slots_of u) }) v some) (record {
          header = is.bytes 0 (omega (arith, readable.0, readable.2, is.records));
          legal = subst (λ (m : ℕ). IsLegal m (record_at u 0) (slots_of u)) is.records reads;
          room = slots_room u;
          entries = λ i lt. slots_sizes n u i is (omega (arith, readable.2, is.records)) lt;
          kinds = λ i lt. slots_kinds u i lt;
        })

-- the volume of a tape of n records is a volume for n records
pub volume_is : (n : ℕ) (t : Tape) (v : Volume) → IsTape n t → volume_of t ≡ Some v → IsVolume n v
volume_is n t v is e = volume_in_is n (settled t) v (settled_shape n t is) e
