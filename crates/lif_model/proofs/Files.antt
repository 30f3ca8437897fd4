-- Finite maps of files: two with equal look-ups are equal, and what each look-up answers.
use Rattle.std.proofs.Common.{◌≡◌, ◌&&◌, ℕ, List, [], ◌∷◌, Bool, true, false, if◌then◌else◌, Option, Some, None, length, map, filter, refl, sym, ◌∙◌, ap, ◌<◌, ◌+◌, ◌++◌, suc, arith}
use Rattle.std.specs.Prelude.{option_map}
use Rattle.std.specs.Str.{bytes_eq}
use Rattle.std.specs.Ordering.{nat_cmp, eq_by_cmp}
use Rattle.std.specs.Cmp.{unsigned_ties}
use Rattle.std.specs.Cmp.Lexicographic.{slice_cmp, lists_ties, nat_list_cmp_total}
use Rattle.std.specs.FinMap.{empty, get, insert, remove, get-empty, get-insert, get-remove, get-from_entries, same_map, slice_cmp-IsAntisymmetric, nat_cmp-IsAntisymmetric}
use Rattle.std.specs.FinMap.Entries as entries
use Rattle.lif_model.specs.Tape.{Tape, record_at, bytes_from}
use Rattle.lif_model.specs.Shelf.{bytes_of}
use Rattle.lif_model.specs.Made.{file_length, filled, file_records}
use Rattle.lif_model.specs.Directory.{name_of, start_of, length_of}
use Rattle.lif_model.specs.Volume.{Files, is_file, file_named, content_of, files_of}
use Rattle.lif_model.specs.Apply.{moved_key}
use Rattle.lif_model.proofs.Made.{length_cut, file_bytes}

-- two maps of files that answer alike are equal
pub same_files : (a b : Files) → ((name : List ℕ) → get a name ≡ get b name) → a ≡ b
same_files a b same = same_map nat_list_cmp_total (slice_cmp-IsAntisymmetric nat_cmp-IsAntisymmetric) a b same

-- the order of names tells apart what differs
pub same_name : (a b : List ℕ) → eq_by_cmp (slice_cmp nat_cmp) a b ≡ bytes_eq a b
same_name a b = sym (lists_ties nat_cmp unsigned_ties a b)

pub get_none : (name : List ℕ) → get {X = List ℕ} {R = slice_cmp nat_cmp} empty name ≡ None
get_none name = get-empty (slice_cmp nat_cmp) name

pub get_stored : (files : Files) (name bytes q : List ℕ) → get (insert files name bytes) q ≡ (if bytes_eq q name then Some bytes else get files q)
get_stored files name bytes q = get-insert nat_list_cmp_total files name bytes q ∙ ap (λ (b : Bool). if b then Some bytes else get files q) (same_name q name)

pub get_removed : (files : Files) (name q : List ℕ) → get (remove files name) q ≡ (if bytes_eq q name then None else get files q)
get_removed files name q = get-remove nat_list_cmp_total files name q ∙ ap (λ (b : Bool). if b then None else get files q) (same_name q name)

-- a file under another name
pub get_moved : (files : Files) (old new bytes q : List ℕ) → get (moved_key files old new (Some bytes)) q ≡ (if bytes_eq q new then Some bytes else (if bytes_eq q old then None else get files q))
get_moved files old new bytes q = get_stored (remove files old) new bytes q ∙ ap (λ (o : Option (List ℕ)). if bytes_eq q new then Some bytes else o) (get_removed files old q)

-- ---- the files of a tape

found : (n : ℕ) (tape : Tape) (slots : List (List ℕ)) (name : List ℕ) → entries.find (slice_cmp nat_cmp) name (map {B = List ℕ × List ℕ} (λ slot. (name_of slot, content_of tape slot)) (filter (is_file n) slots))
    ≡ option_map (content_of tape) (file_named n slots name)
found n tape [] name = refl
found n tape (slot ∷ slots) name = go (is_file n slot) (bytes_eq name (name_of slot)) (same_name name (name_of slot)) (found n tape slots name)
  where
    go : (b c : Bool) → eq_by_cmp (slice_cmp nat_cmp) name (name_of slot) ≡ c
        → entries.find (slice_cmp nat_cmp) name (map {B = List ℕ × List ℕ} (λ s. (name_of s, content_of tape s)) (filter (is_file n) slots)) ≡ option_map (content_of tape) (file_named n slots name)
        → entries.find (slice_cmp nat_cmp) name (map {B = List ℕ × List ℕ} (λ s. (name_of s, content_of tape s)) (if b then slot ∷ filter (is_file n) slots else filter (is_file n) slots))
        ≡ option_map (content_of tape) (if b && c then Some slot else file_named n slots name)
    go false c same rest = rest
    go true false same rest = ap (λ (b : Bool). if b then Some (content_of tape slot) else entries.find (slice_cmp nat_cmp) name (map {B = List ℕ × List ℕ} (λ s. (name_of s, content_of tape s)) (filter (is_file n) slots))) same ∙ rest
    go true true same rest = ap (λ (b : Bool). if b then Some (content_of tape slot) else entries.find (slice_cmp nat_cmp) name (map {B = List ℕ × List ℕ} (λ s. (name_of s, content_of tape s)) (filter (is_file n) slots))) same

-- the bytes of the file of a name are those of its slot's extent
pub get_file : (tape : Tape) (slots : List (List ℕ)) (n : ℕ) (name : List ℕ) → n ≡ length tape → get (files_of tape slots) name ≡ option_map (content_of tape) (file_named n slots name)
get_file tape slots n name e =
    get-from_entries nat_list_cmp_total _ name ∙ found (length tape) tape slots name ∙ ap (λ (m : ℕ). option_map (content_of tape) (file_named m slots name)) (sym e)

-- ---- a file as it is written

written : (u xs : Tape) (k : ℕ) → ((j : ℕ) → j < length xs → record_at u (k + j) ≡ record_at xs j) → bytes_from u k (length xs) ≡ bytes_of xs
written u [] k same = refl
written u (x ∷ xs) k same =
    let here : record_at u k ≡ x = ap (record_at u) (omega arith) ∙ same 0 (omega arith) in
    let rest : bytes_from u (suc k) (length xs) ≡ bytes_of xs = written u xs (suc k) (λ j lt. ap (record_at u) (omega arith) ∙ same (suc j) (omega arith)) in
    λ i. here i ++ rest i

-- the content of a slot whose records are those of a file is the file's bytes, filled up with zeros
pub content_written : (u : Tape) (slot bytes : List ℕ) → length_of slot ≡ file_length bytes → ((j : ℕ) → j < file_length bytes → record_at u (start_of slot + j) ≡ record_at (file_records bytes) j) → content_of u slot ≡ filled bytes
content_written u slot bytes long same =
    let count : length (file_records bytes) ≡ file_length bytes = length_cut (file_length bytes) bytes in
    ap (bytes_from u (start_of slot)) (long ∙ sym count) ∙ written u (file_records bytes) (start_of slot) (λ j lt. same j (omega (arith, lt, count))) ∙ file_bytes bytes
