-- The bytes that are written, read back.
use Rattle.std.proofs.Common.{◌≡◌, ◌<◌, ◌≤◌, ◌+◌, ◌-◌, ◌*◌, ◌/◌, ◌%◌, ◌++◌, ◌==◌, if◌then◌else◌, ℕ, zero, suc, List, [], ◌∷◌, Bool, true, false, length, get_or, set, take, drop, replicate, inl, inr, refl, sym, ◌∙◌, ap, arith, slice_index, length-append, length-set, length-drop, length-take, get_or-drop, get_or-take, get_or-set_other, get_or-set_same, append_assoc}
use Rattle.std.proofs.lemmas.Bool.{and_from, le-leb, lt-ltb, cases_lt}
use Rattle.std.proofs.lemmas.List.{get_or-append_right, get_or_append_left, take_at, take_all, drop_all, replicate-append-replicate, length-replicate, take-append-drop, take-append-le, take-take, append-nil}
use Rattle.lif_model.specs.Numbers.{two_at, four_at}
use Rattle.lif_model.specs.Shelf.{piece, cut, bytes_of}
use Rattle.lif_model.specs.Gate.{gate_of}
use Rattle.lif_model.specs.Header.{directory_start, directory_length, is_readable}
use Rattle.lif_model.specs.Directory.{name_of, type_of, start_of, length_of}
use Rattle.lif_model.specs.Made.{in_two, in_four, new_entry, with_name, with_type, with_extent, geometry, fresh_header, file_length, filled, file_records}

-- ---- numbers

-- numbers after a front of n bytes
pub two_behind : (p q : List ℕ) (n i : ℕ) → length p ≡ n → two_at (p ++ q) (n + i) ≡ two_at q i
unfolding two_at
two_behind p q n i e =
    let first : slice_index (p ++ q) (n + i) ≡ slice_index q i = get_or-append_right p q n (n + i) 0 e (omega arith) ∙ ap (slice_index q) (omega arith) in
    let second : slice_index (p ++ q) (n + i + 1) ≡ slice_index q (i + 1) = get_or-append_right p q n (n + i + 1) 0 e (omega arith) ∙ ap (slice_index q) (omega arith) in
    omega (arith, first, second)

pub four_behind : (p q : List ℕ) (n i : ℕ) → length p ≡ n → four_at (p ++ q) (n + i) ≡ four_at q i
unfolding four_at
four_behind p q n i e =
    let first : two_at (p ++ q) (n + i) ≡ two_at q i = two_behind p q n i e in
    let second : two_at (p ++ q) (n + i + 2) ≡ two_at q (i + 2) = ap (two_at (p ++ q)) (omega arith) ∙ two_behind p q n (i + 2) e in
    omega (arith, first, second)

-- two lists with equal bytes from place n on have equal numbers there
pub two_same : (x y : List ℕ) (n i : ℕ) → ((j : ℕ) → n ≤ j → get_or x j 0 ≡ get_or y j 0) → n ≤ i → two_at x i ≡ two_at y i
unfolding two_at
two_same x y n i same le = omega (arith, same i le, same (i + 1) (omega (arith, le)))

pub four_same : (x y : List ℕ) (n i : ℕ) → ((j : ℕ) → n ≤ j → get_or x j 0 ≡ get_or y j 0) → n ≤ i → four_at x i ≡ four_at y i
unfolding four_at
four_same x y n i same le = omega (arith, two_same x y n i same le, two_same x y n (i + 2) same (omega (arith, le)))

-- a number in two or in four bytes read back
pub two_first : (k : ℕ) (rest : List ℕ) → two_at (in_two k ++ rest) 0 ≡ k
unfolding two_at
two_first k rest = omega arith

pub four_first : (k : ℕ) (rest : List ℕ) → four_at (in_four k ++ rest) 0 ≡ k
unfolding four_at
four_first k rest =
    let high : two_at (in_four k ++ rest) 0 ≡ k / 65536 = two_first (k / 65536) (in_two (k % 65536) ++ rest) in
    let low : two_at (in_four k ++ rest) 2 ≡ k % 65536 = two_behind (in_two (k / 65536)) (in_two (k % 65536) ++ rest) 2 0 refl ∙ two_first (k % 65536) rest in
    omega (arith, high, low)

-- ---- entries

module _ (name : List ℕ) (kind start count : ℕ) (implementation : List ℕ) (ten : length name ≡ 10) where
  pub new_name : name_of (new_entry name kind start count implementation) ≡ name
  unfolding new_entry name_of
  new_name = take_at name _ 10 ten

  pub new_type : type_of (new_entry name kind start count implementation) ≡ kind
  unfolding new_entry
  new_type = two_behind name _ 10 0 ten ∙ two_first kind _

  pub new_start : start_of (new_entry name kind start count implementation) ≡ start
  unfolding new_entry
  new_start = four_behind name _ 10 2 ten ∙ four_behind (in_two kind) _ 2 0 refl ∙ four_first start _

  pub new_length : length_of (new_entry name kind start count implementation) ≡ count
  unfolding new_entry
  new_length = four_behind name _ 10 6 ten ∙ four_behind (in_two kind) _ 2 4 refl ∙ four_behind (in_four start) _ 4 0 refl ∙ four_first count _

  pub new_size : length implementation ≡ 4 → length (new_entry name kind start count implementation) ≡ 32
  unfolding new_entry
  new_size four = length-append name _ ∙ omega (arith, ten, four)

-- another name leaves all after the name
module _ (name entry : List ℕ) (ten : length name ≡ 10) where
  named_rest : (j : ℕ) → 10 ≤ j → get_or (with_name name entry) j 0 ≡ get_or entry j 0
  unfolding with_name
  named_rest j le = get_or-append_right name (drop 10 entry) 10 j 0 ten le ∙ get_or-drop 10 entry (j - 10) 0 ∙ ap (λ (i : ℕ). get_or entry i 0) (omega arith)

  pub named_name : name_of (with_name name entry) ≡ name
  unfolding with_name name_of
  named_name = take_at name (drop 10 entry) 10 ten

  pub named_type : type_of (with_name name entry) ≡ type_of entry
  named_type = two_same (with_name name entry) entry 10 10 named_rest (omega arith)

  pub named_start : start_of (with_name name entry) ≡ start_of entry
  named_start = four_same (with_name name entry) entry 10 12 named_rest (omega arith)

  pub named_length : length_of (with_name name entry) ≡ length_of entry
  named_length = four_same (with_name name entry) entry 10 16 named_rest (omega arith)

  pub named_size : length entry ≡ 32 → length (with_name name entry) ≡ 32
  unfolding with_name
  named_size all = length-append name (drop 10 entry) ∙ omega (arith, ten, length-drop 10 entry, all)

-- another type leaves all but the type
module _ (kind : ℕ) (entry : List ℕ) where
  typed_rest : (j : ℕ) → 12 ≤ j → get_or (with_type kind entry) j 0 ≡ get_or entry j 0
  unfolding with_type
  typed_rest j le = get_or-set_other (set entry 10 (kind / 256)) 11 j (kind % 256) 0 (λ e. absurd (omega (arith, e, le))) ∙ get_or-set_other entry 10 j (kind / 256) 0 (λ e. absurd (omega (arith, e, le)))

  pub typed_type : 12 ≤ length entry → type_of (with_type kind entry) ≡ kind
  unfolding with_type two_at
  typed_type le =
      let high : get_or (set (set entry 10 (kind / 256)) 11 (kind % 256)) 10 0 ≡ kind / 256 =
      get_or-set_other (set entry 10 (kind / 256)) 11 10 (kind % 256) 0 (λ e. absurd (omega (arith, e))) ∙ get_or-set_same entry 10 (kind / 256) 0 (omega (arith, le)) in
      let low : get_or (set (set entry 10 (kind / 256)) 11 (kind % 256)) 11 0 ≡ kind % 256 =
      get_or-set_same (set entry 10 (kind / 256)) 11 (kind % 256) 0 (omega (arith, le, length-set entry 10 (kind / 256))) in
      omega (arith, high, low)

  pub typed_start : start_of (with_type kind entry) ≡ start_of entry
  typed_start = four_same (with_type kind entry) entry 12 12 typed_rest (omega arith)

  pub typed_length : length_of (with_type kind entry) ≡ length_of entry
  typed_length = four_same (with_type kind entry) entry 12 16 typed_rest (omega arith)

  pub typed_size : length (with_type kind entry) ≡ length entry
  unfolding with_type
  typed_size = length-set (set entry 10 (kind / 256)) 11 (kind % 256) ∙ length-set entry 10 (kind / 256)

-- another extent and another implementation field leave all else
module _ (start count : ℕ) (implementation entry : List ℕ) (all : length entry ≡ 32) where
  twelve : length (take 12 entry) ≡ 12
  twelve = omega (arith, length-take 12 entry, all)

  abbrev behind_extent : List ℕ
  behind_extent = take 8 (drop 20 entry) ++ implementation

  pub extent_name : name_of (with_extent start count implementation entry) ≡ name_of entry
  unfolding with_extent name_of
  extent_name = take-append-le 10 (take 12 entry) (in_four start ++ (in_four count ++ behind_extent)) (omega (arith, twelve)) ∙ take-take 10 12 entry (omega arith)

  pub extent_type : type_of (with_extent start count implementation entry) ≡ type_of entry
  unfolding with_extent two_at
  extent_type =
      let rest : List ℕ = in_four start ++ (in_four count ++ behind_extent) in
      let high : get_or (take 12 entry ++ rest) 10 0 ≡ get_or entry 10 0 = get_or_append_left (take 12 entry) rest 0 10 (omega (arith, twelve)) ∙ get_or-take 12 entry 10 0 (omega arith) in
      let low : get_or (take 12 entry ++ rest) 11 0 ≡ get_or entry 11 0 = get_or_append_left (take 12 entry) rest 0 11 (omega (arith, twelve)) ∙ get_or-take 12 entry 11 0 (omega arith) in
      omega (arith, high, low)

  pub extent_start : start_of (with_extent start count implementation entry) ≡ start
  unfolding with_extent
  extent_start = four_behind (take 12 entry) (in_four start ++ (in_four count ++ behind_extent)) 12 0 twelve ∙ four_first start (in_four count ++ behind_extent)

  pub extent_length : length_of (with_extent start count implementation entry) ≡ count
  unfolding with_extent
  extent_length = four_behind (take 12 entry) (in_four start ++ (in_four count ++ behind_extent)) 12 4 twelve
      ∙ four_behind (in_four start) (in_four count ++ behind_extent) 4 0 refl ∙ four_first count behind_extent

  pub extent_size : length implementation ≡ 4 → length (with_extent start count implementation entry) ≡ 32
  unfolding with_extent
  extent_size four = length-append (take 12 entry) (in_four start ++ (in_four count ++ behind_extent))
      ∙ omega (arith, twelve, length-append (take 8 (drop 20 entry)) implementation, length-take 8 (drop 20 entry), length-drop 20 entry, all, four)

-- ---- headers

front : (p q : List ℕ) (i : ℕ) → i < length p → get_or (p ++ q) i 0 ≡ get_or p i 0
front p q i lt = get_or_append_left p q 0 i lt

pub two_front : (p q : List ℕ) (i : ℕ) → i + 1 < length p → two_at (p ++ q) i ≡ two_at p i
unfolding two_at
two_front p q i lt = omega (arith, front p q i (omega arith), front p q (i + 1) lt)

pub four_front : (p q : List ℕ) (i : ℕ) → i + 3 < length p → four_at (p ++ q) i ≡ four_at p i
unfolding four_at
four_front p q i lt = omega (arith, two_front p q i (omega arith), two_front p q (i + 2) (omega arith))

-- fewer bytes than a record has, with the zeros after them
pub piece_short : (bytes : List ℕ) → length bytes ≤ 256 → piece bytes ≡ bytes ++ replicate (256 - length bytes) 0
unfolding piece
piece_short bytes le = ap (λ (bs : List ℕ). bs ++ replicate (256 - length bytes) 0) (take_all 256 bytes le)

-- a record's bytes or more
pub piece_long : (bytes : List ℕ) → 256 ≤ length bytes → piece bytes ≡ take 256 bytes
unfolding piece
piece_long bytes le = let none : 256 - length bytes ≡ 0 = omega arith in ap (λ (m : ℕ). take 256 bytes ++ replicate m 0) none ∙ append-nil (take 256 bytes)

pub piece_size : (bytes : List ℕ) → length (piece bytes) ≡ 256
unfolding piece
piece_size bytes = omega (arith, length-append (take 256 bytes) (replicate (256 - length bytes) 0), length-take 256 bytes, length-replicate {A = ℕ} (256 - length bytes) 0)

geometry_size : (n : ℕ) → length (geometry n) ≡ 12
geometry_size n = go (n == 2464)
  where
    go : (b : Bool) → length (if b then in_four 77 ++ (in_four 2 ++ in_four 16) else in_four 2 ++ (in_four 1 ++ in_four 256)) ≡ 12
    go true = refl
    go false = refl

module _ (n : ℕ) (label : List ℕ) (count : ℕ) (six : length label ≡ 6) where
  abbrev behind_label : List ℕ
  behind_label = in_four 2 ++ (in_two 0x1000 ++ (in_two 0 ++ (in_four count ++ (in_two 1 ++ (in_two 0 ++ geometry n)))))

  abbrev made : List ℕ
  made = in_two 0x8000 ++ (label ++ behind_label)

  made_size : length made ≡ 36
  made_size = ap (λ (m : ℕ). suc (suc m)) (length-append label behind_label) ∙ omega (arith, six, geometry_size n)

  fresh_is : fresh_header n label count ≡ made ++ replicate 220 0
  unfolding fresh_header
  fresh_is = let rest : 256 - length made ≡ 220 = omega (arith, made_size) in piece_short made (omega (arith, made_size)) ∙ ap (λ (m : ℕ). made ++ replicate m 0) rest

  pub fresh_mark : two_at (fresh_header n label count) 0 ≡ 0x8000
  fresh_mark = ap (λ (bs : List ℕ). two_at bs 0) fresh_is ∙ two_front made _ 0 (omega (arith, made_size)) ∙ two_first 0x8000 (label ++ behind_label)

  pub fresh_start : directory_start (fresh_header n label count) ≡ 2
  fresh_start = ap (λ (bs : List ℕ). four_at bs 8) fresh_is ∙ four_front made _ 8 (omega (arith, made_size)) ∙ four_behind (in_two 0x8000) (label ++ behind_label) 2 6 refl ∙ four_behind label behind_label 6 0 six ∙ four_first 2 _

  pub fresh_length : directory_length (fresh_header n label count) ≡ count
  fresh_length = ap (λ (bs : List ℕ). four_at bs 16) fresh_is ∙ four_front made _ 16 (omega (arith, made_size)) ∙ four_behind (in_two 0x8000) (label ++ behind_label) 2 14 refl ∙ four_behind label behind_label 6 8 six
      ∙ four_behind (in_four 2) _ 4 4 refl ∙ four_behind (in_two 0x1000) _ 2 2 refl ∙ four_behind (in_two 0) _ 2 0 refl ∙ four_first count _

  pub fresh_readable : 0 < count → 2 + count ≤ gate_of n → is_readable n (fresh_header n label count) ≡ true
  fresh_readable some below = rw (fresh_mark, fresh_start, fresh_length) (and_from _ _ (lt-ltb 0 count some) (le-leb (2 + count) (gate_of n) below))

pub fresh_size : (n : ℕ) (label : List ℕ) (count : ℕ) → length (fresh_header n label count) ≡ 256
unfolding fresh_header
fresh_size n label count = piece_size _

-- ---- files

pub length_cut : (n : ℕ) (bytes : List ℕ) → length (cut n bytes) ≡ n
length_cut zero bytes = refl
length_cut (suc n) bytes = ap suc (length_cut n (drop 256 bytes))

short_join : (bytes first rest : List ℕ) (a b c : ℕ) → first ≡ bytes ++ replicate a 0 → rest ≡ replicate b 0 → a + b ≡ c → first ++ rest ≡ bytes ++ replicate c 0
short_join bytes first rest a b c is_first is_rest sum =
    let zeros : replicate a 0 ++ replicate b 0 ≡ replicate c 0 = replicate-append-replicate a b 0 ∙ ap (λ (m : ℕ). replicate m 0) sum in
    (λ i. is_first i ++ is_rest i) ∙ append_assoc bytes (replicate a 0) (replicate b 0) ∙ ap (λ (bs : List ℕ). bytes ++ bs) zeros

long_join : (bytes front back first rest : List ℕ) (b c : ℕ) → first ≡ front → rest ≡ back ++ replicate b 0 → front ++ back ≡ bytes → b ≡ c → first ++ rest ≡ bytes ++ replicate c 0
long_join bytes front back first rest b c is_first is_rest all sum =
    (λ i. is_first i ++ is_rest i) ∙ sym (append_assoc front back (replicate b 0)) ∙ (λ i. all i ++ replicate (sum i) 0)

cut_bytes : (n : ℕ) (bytes : List ℕ) → length bytes ≤ 256 * n → bytes_of (cut n bytes) ≡ bytes ++ replicate (256 * n - length bytes) 0
cut_bytes zero [] le = refl
cut_bytes zero (b ∷ bytes) le = absurd (omega arith)
cut_bytes (suc n) bytes le = elim (cases_lt (length bytes) 256) [
  | inl lt ↦
      let none : drop 256 bytes ≡ [] = drop_all 256 bytes (omega arith) in
      short_join bytes (piece bytes) (bytes_of (cut n (drop 256 bytes))) (256 - length bytes) (256 * n - 0) (256 * suc n - length bytes)
      (piece_short bytes (omega (arith, lt))) (ap (λ (bs : List ℕ). bytes_of (cut n bs)) none ∙ cut_bytes n [] (omega arith)) (omega (arith, lt))
  | inr ge ↦
      long_join bytes (take 256 bytes) (drop 256 bytes) (piece bytes) (bytes_of (cut n (drop 256 bytes))) (256 * n - length (drop 256 bytes)) (256 * suc n - length bytes)
      (piece_long bytes ge) (cut_bytes n (drop 256 bytes) (omega (arith, length-drop 256 bytes, le))) (take-append-drop 256 bytes) (omega (arith, length-drop 256 bytes, ge))
]

pub file_fits : (bytes : List ℕ) → length bytes ≤ 256 * file_length bytes
file_fits bytes = omega arith

pub file_has_records : (bytes : List ℕ) → 0 < file_length bytes
file_has_records bytes = omega arith

-- the records of a file, joined, are its bytes filled up with zeros
pub file_bytes : (bytes : List ℕ) → bytes_of (file_records bytes) ≡ filled bytes
unfolding filled
file_bytes bytes = cut_bytes (file_length bytes) bytes (file_fits bytes)

pub length_filled : (bytes : List ℕ) → length (filled bytes) ≡ 256 * file_length bytes
unfolding filled
length_filled bytes = omega (arith, length-append bytes (replicate (256 * file_length bytes - length bytes) 0), length-replicate {A = ℕ} (256 * file_length bytes - length bytes) 0, file_fits bytes)
