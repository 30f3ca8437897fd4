-- An entry and its 32 bytes tell of each other.
use Rattle.std.proofs.Common.{◌≡◌, ◌≢◌, ◌==◌, ◌&&◌, ℕ, zero, suc, not, nat_lt, ◌+◌, ◌<◌, ◌≤◌, ◌^◌, false, if◌then◌else◌, List, [], ◌∷◌, ◌++◌, length, get_or, take, drop, refl, ap, sym, ◌∙◌, append_assoc, append-nil, length-append, arith, w16, w32, lit<}
use Rattle.std.specs.Int.{to_be_bytes, byte_at}
use Rattle.std.proofs.lemmas.List.{get_or-append-add, drop_more, take_all}
use Rattle.std.proofs.lemmas.Nat.{be_bytes_2, be_bytes_4}
use Rattle.std.proofs.Math.Seq.{take-add, drop-append_seam, take-append_seam}
use Rattle.lif_model.specs.Numbers.{two_at, four_at}
use Rattle.lif_model.specs.Directory.{name_of, type_of, start_of, length_of, date_of, implementation_of}
use Rattle.lif_model.specs.Legal.{is_live, has_records}
use Rattle.lif_dir.specs.declared.entries.FileEntry.{FileEntry}
use Rattle.lif_dir.specs.declared.entries.Slot.{Slot}
use Rattle.lif_dir.specs.declared.entries.Slot.TheVariants.{End}
use Rattle.lif_dir.specs.Entries.{entry_bytes, entry_from, slot_from, slot_of}

-- ---- from an entry to its bytes and back

-- the fields have their widths
pub record HasWidths (entry : FileEntry) : Type 0 where
  pub name : length entry.name.bytes ≡ 10
  pub kind : entry.kind < 2 ^ 16
  pub start : entry.start < 2 ^ 32
  pub count : entry.length < 2 ^ 32
  pub date : length entry.date ≡ 6
  pub volume : entry.volume < 2 ^ 16
  pub implementation : length entry.implementation ≡ 4

-- place i of a list, counted from where its first m places end
after : (xs ys : List ℕ) (m k i : ℕ) → length xs ≡ m → i ≡ m + k → get_or (xs ++ ys) i 0 ≡ get_or ys k 0
after xs ys m k i long e = rw (e, ← long) (get_or-append-add xs ys k 0)

two_after : (xs ys : List ℕ) (m n : ℕ) → length xs ≡ m → n < 2 ^ 16 → two_at (xs ++ (to_be_bytes w16 n ++ ys)) m ≡ n
unfolding two_at
two_after xs ys m n long small =
    let high : get_or (xs ++ (to_be_bytes w16 n ++ ys)) m 0 ≡ byte_at 1 n = after xs _ m 0 m long (omega arith) in
    let low : get_or (xs ++ (to_be_bytes w16 n ++ ys)) (m + 1) 0 ≡ byte_at 0 n = after xs _ m 1 (m + 1) long refl in
    rw (high, low) (omega arith)

four_after : (xs ys : List ℕ) (m n : ℕ) → length xs ≡ m → n < 2 ^ 32 → four_at (xs ++ (to_be_bytes w32 n ++ ys)) m ≡ n
unfolding four_at two_at
four_after xs ys m n long small =
    let first : get_or (xs ++ (to_be_bytes w32 n ++ ys)) m 0 ≡ byte_at 3 n = after xs _ m 0 m long (omega arith) in
    let second : get_or (xs ++ (to_be_bytes w32 n ++ ys)) (m + 1) 0 ≡ byte_at 2 n = after xs _ m 1 (m + 1) long refl in
    let third : get_or (xs ++ (to_be_bytes w32 n ++ ys)) (m + 2) 0 ≡ byte_at 1 n = after xs _ m 2 (m + 2) long refl in
    let fourth : get_or (xs ++ (to_be_bytes w32 n ++ ys)) (m + 2 + 1) 0 ≡ byte_at 0 n = after xs _ m 3 (m + 2 + 1) long (omega arith) in
    rw (first, second, third, fourth) (omega arith)

part_after : (xs ys zs : List ℕ) (m n : ℕ) → length xs ≡ m → length ys ≡ n → take n (drop m (xs ++ (ys ++ zs))) ≡ ys
part_after xs ys zs m n long many = rw (← long, ← many, drop-append_seam) (take-append_seam ys zs)

abbrev pub entry_with : List ℕ → ℕ → ℕ → ℕ → List ℕ → ℕ → List ℕ → FileEntry
entry_with n k s l d v p = record { name = record { bytes = n }; kind = k; start = s; length = l; date = d; volume = v; implementation = p }

-- entries with the same fields
pub same_entry : {n n' d d' p p' : List ℕ} {k k' s s' l l' v v' : ℕ}
    → n ≡ n' → k ≡ k' → s ≡ s' → l ≡ l' → d ≡ d' → v ≡ v' → p ≡ p'
    → entry_with n k s l d v p ≡ entry_with n' k' s' l' d' v' p'
same_entry name kind start count date volume implementation = cc

-- seven parts, joined at another of their seams
seam_1 : (a b c d e f g : List ℕ) → a ++ b ++ c ++ d ++ e ++ f ++ g ≡ a ++ (b ++ (c ++ d ++ e ++ f ++ g))
seam_1 a b c d e f g = simp append_assoc

seam_2 : (a b c d e f g : List ℕ) → a ++ b ++ c ++ d ++ e ++ f ++ g ≡ (a ++ b) ++ (c ++ (d ++ e ++ f ++ g))
seam_2 a b c d e f g = simp append_assoc

seam_3 : (a b c d e f g : List ℕ) → a ++ b ++ c ++ d ++ e ++ f ++ g ≡ (a ++ b ++ c) ++ (d ++ (e ++ f ++ g))
seam_3 a b c d e f g = simp append_assoc

seam_4 : (a b c d e f g : List ℕ) → a ++ b ++ c ++ d ++ e ++ f ++ g ≡ (a ++ b ++ c ++ d) ++ (e ++ (f ++ g))
seam_4 a b c d e f g = simp append_assoc

seam_5 : (a b c d e f g : List ℕ) → a ++ b ++ c ++ d ++ e ++ f ++ g ≡ (a ++ b ++ c ++ d ++ e) ++ (f ++ g)
seam_5 a b c d e f g = simp append_assoc

seam_6 : (a b c d e f g : List ℕ) → a ++ b ++ c ++ d ++ e ++ f ++ g ≡ (a ++ b ++ c ++ d ++ e ++ f) ++ (g ++ [])
seam_6 a b c d e f g = simp (append_assoc, append-nil)

entry_back : (e : FileEntry) → HasWidths e → entry_from (entry_bytes e) ≡ e
unfolding name_of date_of implementation_of
entry_back e w =
    let n : List ℕ = e.name.bytes in
    let k : List ℕ = to_be_bytes w16 e.kind in
    let s : List ℕ = to_be_bytes w32 e.start in
    let l : List ℕ = to_be_bytes w32 e.length in
    let d : List ℕ = e.date in
    let v : List ℕ = to_be_bytes w16 e.volume in
    let p : List ℕ = e.implementation in
    let to_start : length (n ++ k) ≡ 12 = omega (arith, length-append n k) in
    let to_count : length (n ++ k ++ s) ≡ 16 = omega (arith, length-append (n ++ k) s) in
    let to_date : length (n ++ k ++ s ++ l) ≡ 20 = omega (arith, length-append (n ++ k ++ s) l) in
    let to_volume : length (n ++ k ++ s ++ l ++ d) ≡ 26 = omega (arith, length-append (n ++ k ++ s ++ l) d) in
    let to_end : length (n ++ k ++ s ++ l ++ d ++ v) ≡ 28 = omega (arith, length-append (n ++ k ++ s ++ l ++ d) v) in
    same_entry
    (ap (λ bs. take 10 bs) (seam_1 n k s l d v p) ∙ part_after [] n _ 0 10 refl w.name)
    (ap (λ bs. two_at bs 10) (seam_1 n k s l d v p) ∙ two_after n _ 10 e.kind w.name w.kind)
    (ap (λ bs. four_at bs 12) (seam_2 n k s l d v p) ∙ four_after (n ++ k) _ 12 e.start to_start w.start)
    (ap (λ bs. four_at bs 16) (seam_3 n k s l d v p) ∙ four_after (n ++ k ++ s) _ 16 e.length to_count w.count)
    (ap (λ bs. take 6 (drop 20 bs)) (seam_4 n k s l d v p) ∙ part_after (n ++ k ++ s ++ l) d _ 20 6 to_date w.date)
    (ap (λ bs. two_at bs 26) (seam_5 n k s l d v p) ∙ two_after (n ++ k ++ s ++ l ++ d) _ 26 e.volume to_volume w.volume)
    (ap (λ bs. take 4 (drop 28 bs)) (seam_6 n k s l d v p) ∙ part_after (n ++ k ++ s ++ l ++ d ++ v) p [] 28 4 to_end w.implementation)

-- each field is read back
pub kind_back : (e : FileEntry) → HasWidths e → type_of (entry_bytes e) ≡ e.kind
kind_back e w = ap (λ (x : FileEntry). x.kind) (entry_back e w)

pub start_back : (e : FileEntry) → HasWidths e → start_of (entry_bytes e) ≡ e.start
start_back e w = ap (λ (x : FileEntry). x.start) (entry_back e w)

pub length_back : (e : FileEntry) → HasWidths e → length_of (entry_bytes e) ≡ e.length
length_back e w = ap (λ (x : FileEntry). x.length) (entry_back e w)

pub implementation_back : (e : FileEntry) → HasWidths e → implementation_of (entry_bytes e) ≡ e.implementation
implementation_back e w = ap (λ (x : FileEntry). x.implementation) (entry_back e w)

pub name_back : (e : FileEntry) → HasWidths e → name_of (entry_bytes e) ≡ e.name.bytes
name_back e w = ap (λ (x : FileEntry). x.name.bytes) (entry_back e w)

-- what is asked of an entry and of its bytes
module _ (e : FileEntry) (w : HasWidths e) where
  pub live_back : is_live (entry_bytes e) ≡ not (e.kind == 0)
  live_back = ap (λ (k : ℕ). not (k == 0)) (kind_back e w)

  pub records_back : has_records (entry_bytes e) ≡ nat_lt 0 e.length
  records_back = ap (λ (n : ℕ). nat_lt 0 n) (length_back e w)

  pub below_back : (limit : ℕ) → (has_records (entry_bytes e) && nat_lt (start_of (entry_bytes e)) limit) ≡ (nat_lt 0 e.length && nat_lt e.start limit)
  below_back limit = λ i. records_back i && nat_lt (start_back e w i) limit

-- the slot of an entry, or the end
abbrev slot_or_end : FileEntry → Slot
slot_or_end e = if e.kind == 0xFFFF then End else slot_of e

pub slot_back : (e : FileEntry) → HasWidths e → e.kind ≢ 0xFFFF → slot_from (entry_bytes e) ≡ slot_of e
slot_back e w h =
    let other : (e.kind == 0xFFFF) ≡ false = grind arith in
    ap slot_or_end (entry_back e w) ∙ ap (λ b. if b then End else slot_of e) other

-- ---- from 32 bytes to their entry and back

two_front : (bs : List ℕ) (i : ℕ) → i + 2 ≤ length bs → take 2 (drop i bs) ≡ get_or bs i 0 ∷ get_or bs (i + 1) 0 ∷ []
two_front bs i within = rw (drop_more bs i 0 (omega arith), drop_more bs (i + 1) 0 (omega arith))

four_front : (bs : List ℕ) (i : ℕ) → i + 4 ≤ length bs → take 4 (drop i bs) ≡ get_or bs i 0 ∷ get_or bs (i + 1) 0 ∷ get_or bs (i + 2) 0 ∷ get_or bs (i + 2 + 1) 0 ∷ []
four_front bs i within =
    let third : get_or bs (i + 1 + 1) 0 ≡ get_or bs (i + 2) 0 = ap (λ n. get_or bs n 0) (omega arith) in
    let fourth : get_or bs (i + 1 + 1 + 1) 0 ≡ get_or bs (i + 2 + 1) 0 = ap (λ n. get_or bs n 0) (omega arith) in
    rw (drop_more bs i 0 (omega arith), drop_more bs (i + 1) 0 (omega arith), drop_more bs (i + 1 + 1) 0 (omega arith), drop_more bs (i + 1 + 1 + 1) 0 (omega arith), third, fourth)

abbrev AreBytes : List ℕ → Type 0
AreBytes bs = (i : ℕ) → get_or bs i 0 < 256

byte_first : (b : ℕ) (bs : List ℕ) → b < 256 → AreBytes bs → AreBytes (b ∷ bs)
byte_first b bs small rest zero = small
byte_first b bs small rest (suc i) = rest i

no_bytes : AreBytes []
no_bytes i = lit< tt

two_back : (bs : List ℕ) (i : ℕ) → AreBytes bs → i + 2 ≤ length bs → to_be_bytes w16 (two_at bs i) ≡ take 2 (drop i bs)
unfolding two_at
two_back bs i small within =
    let b : ℕ = get_or bs i 0 in
    let c : ℕ = get_or bs (i + 1) 0 in
    be_bytes_2 (b ∷ c ∷ []) (two_at bs i) refl (byte_first b (c ∷ []) (small i) (byte_first c [] (small (i + 1)) no_bytes)) (omega arith)
    ∙ sym (two_front bs i within)

four_back : (bs : List ℕ) (i : ℕ) → AreBytes bs → i + 4 ≤ length bs → to_be_bytes w32 (four_at bs i) ≡ take 4 (drop i bs)
unfolding four_at two_at
four_back bs i small within =
    let a : ℕ = get_or bs i 0 in
    let b : ℕ = get_or bs (i + 1) 0 in
    let c : ℕ = get_or bs (i + 2) 0 in
    let d : ℕ = get_or bs (i + 2 + 1) 0 in
    be_bytes_4 (a ∷ b ∷ c ∷ d ∷ []) (four_at bs i) refl
    (byte_first a (b ∷ c ∷ d ∷ []) (small i) (byte_first b (c ∷ d ∷ []) (small (i + 1)) (byte_first c (d ∷ []) (small (i + 2)) (byte_first d [] (small (i + 2 + 1)) no_bytes)))) (omega arith)
    ∙ sym (four_front bs i within)

same_parts : {k k' s s' l l' v v' : List ℕ} (a d p : List ℕ) → k ≡ k' → s ≡ s' → l ≡ l' → v ≡ v' → a ++ k ++ s ++ l ++ d ++ v ++ p ≡ a ++ k' ++ s' ++ l' ++ d ++ v' ++ p
same_parts a d p kind start count volume = cc

parts_join : (bs : List ℕ) → length bs ≡ 32 → take 10 bs ++ take 2 (drop 10 bs) ++ take 4 (drop 12 bs) ++ take 4 (drop 16 bs) ++ take 6 (drop 20 bs) ++ take 2 (drop 26 bs) ++ take 4 (drop 28 bs) ≡ bs
parts_join bs long =
    let a : take 10 bs ++ take 2 (drop 10 bs) ≡ take 12 bs = sym (take-add 10 2 bs) in
    let b : take 12 bs ++ take 4 (drop 12 bs) ≡ take 16 bs = sym (take-add 12 4 bs) in
    let c : take 16 bs ++ take 4 (drop 16 bs) ≡ take 20 bs = sym (take-add 16 4 bs) in
    let d : take 20 bs ++ take 6 (drop 20 bs) ≡ take 26 bs = sym (take-add 20 6 bs) in
    let e : take 26 bs ++ take 2 (drop 26 bs) ≡ take 28 bs = sym (take-add 26 2 bs) in
    let f : take 28 bs ++ take 4 (drop 28 bs) ≡ take 32 bs = sym (take-add 28 4 bs) in
    let all : take 32 bs ≡ bs = take_all 32 bs (omega arith) in
    cc

pub bytes_back : (bs : List ℕ) → length bs ≡ 32 → ((i : ℕ) → get_or bs i 0 < 256) → entry_bytes (entry_from bs) ≡ bs
unfolding name_of date_of implementation_of
bytes_back bs long small =
    same_parts (take 10 bs) (take 6 (drop 20 bs)) (take 4 (drop 28 bs)) (two_back bs 10 small (omega arith)) (four_back bs 12 small (omega arith))
    (four_back bs 16 small (omega arith)) (two_back bs 26 small (omega arith))
    ∙ parts_join bs long
