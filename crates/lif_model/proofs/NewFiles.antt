-- Files that are written one after the other: what they leave of each record.
use Rattle.std.proofs.Common.{◌≡◌, ◌⊎◌, ◌<◌, ◌≤◌, ◌+◌, ◌-◌, ◌==◌, ℕ, suc, List, [], ◌∷◌, ◌++◌, Bool, true, false, if◌then◌else◌, length, get_or, set, filter, inl, inr, refl, sym, ◌∙◌, ap, arith, length-set}
use Rattle.std.specs.Prelude.{All}
use Rattle.std.proofs.lemmas.Bool.{cases_lt}
use Rattle.std.proofs.lemmas.List.{ext_get_or}
use Rattle.std.proofs.lemmas.List.Elements.{All-nil, All-cons, All-head, All-tail}
use Rattle.lif_model.specs.Tape.{Tape, IsTape, record_at}
use Rattle.lif_model.specs.Made.{file_length, file_records}
use Rattle.lif_model.specs.declared.version.Version.{Version}
use Rattle.lif_model.specs.Transfers.{PartlyReplaced}
use Rattle.lif_model.specs.Volume.{volume_in}
use Rattle.lif_model.specs.Writing.{NewFile, with_records, with_files}
use Rattle.lif_model.proofs.History.{record_behind}
use Rattle.lif_model.proofs.Volume.{volume_agrees}
use Rattle.lif_model.proofs.Places.{IsSpare, IsAside, aside_here, aside_written, aside_partly}
use Rattle.lif_model.proofs.Recorded.{length_records, records_before, records_behind, records_replaced, records_count, file_shape}

-- record k is none of a file
abbrev pub IsOff : ℕ → NewFile → Type 0
IsOff k f = (k < f.start) ⊎ (f.start + file_length f.bytes ≤ k)

pub length_files : (fs : List NewFile) (t : Tape) → length (with_files fs t) ≡ length t
length_files [] t = refl
length_files (f ∷ fs) t = length_files fs (with_records f.start (file_records f.bytes) t) ∙ length_records f.start (file_records f.bytes) t

-- a tape stays a tape
pub files_shape : (n : ℕ) (fs : List NewFile) (t : Tape) → IsTape n t → IsTape n (with_files fs t)
files_shape n [] t is = is
files_shape n (f ∷ fs) t is = files_shape n fs (with_records f.start (file_records f.bytes) t) (file_shape n f.start f.bytes t is)

-- more files are written on the tape with the first ones
pub files_more : (fs more : List NewFile) (t : Tape) → with_files (fs ++ more) t ≡ with_files more (with_files fs t)
files_more [] more t = refl
files_more (f ∷ fs) more t = files_more fs more (with_records f.start (file_records f.bytes) t)

-- a record of none of them stays
one_elsewhere : (f : NewFile) (t : Tape) (k : ℕ) → IsOff k f → record_at (with_records f.start (file_records f.bytes) t) k ≡ record_at t k
one_elsewhere f t k (inl before) = records_before f.start (file_records f.bytes) t k before
one_elsewhere f t k (inr past) = records_behind f.start (file_records f.bytes) t k (omega (arith, past, records_count f.bytes))

pub files_elsewhere : (fs : List NewFile) (t : Tape) (k : ℕ) → All (IsOff k) fs → record_at (with_files fs t) k ≡ record_at t k
files_elsewhere [] t k off = refl
files_elsewhere (f ∷ fs) t k off = files_elsewhere fs (with_records f.start (file_records f.bytes) t) k (All-tail (IsOff k) f fs off) ∙ one_elsewhere f t k (All-head (IsOff k) f fs off)

-- what a record is then depends on that record alone
one_same : (first : ℕ) (rs : List (List ℕ)) (x y : Tape) (k : ℕ) → length x ≡ length y → k < length x → record_at x k ≡ record_at y k
    → record_at (with_records first rs x) k ≡ record_at (with_records first rs y) k
one_same first [] x y k size lt same = same
one_same first (r ∷ rs) x y k size lt same = one_same (suc first) rs (set x first r) (set y first r) k (length-set x first r ∙ size ∙ sym (length-set y first r)) (omega (arith, lt, length-set x first r))
    (record_behind x first k r lt ∙ ap (λ (bytes : List ℕ). if first == k then r else bytes) same ∙ sym (record_behind y first k r (omega (arith, lt, size))))

pub files_same : (fs : List NewFile) (x y : Tape) (k : ℕ) → length x ≡ length y → k < length x → record_at x k ≡ record_at y k
    → record_at (with_files fs x) k ≡ record_at (with_files fs y) k
files_same [] x y k size lt same = same
files_same (f ∷ fs) x y k size lt same =
    let rs : Tape = file_records f.bytes in
    files_same fs (with_records f.start rs x) (with_records f.start rs y) k (length_records f.start rs x ∙ size ∙ sym (length_records f.start rs y)) (omega (arith, lt, length_records f.start rs x))
    (one_same f.start rs x y k size lt same)

-- files that are left out change no record but their own
pub files_dropped : (keep : NewFile → Bool) (fs : List NewFile) (t : Tape) (k : ℕ) → k < length t → All (λ f. keep f ≡ false → IsOff k f) fs
    → record_at (with_files (filter keep fs) t) k ≡ record_at (with_files fs t) k
files_dropped keep [] t k lt off = refl
files_dropped keep (f ∷ fs) t k lt off = go (keep f) refl
    (files_dropped keep fs (with_records f.start (file_records f.bytes) t) k (omega (arith, lt, length_records f.start (file_records f.bytes) t)) (All-tail (λ f. keep f ≡ false → IsOff k f) f fs off))
  where
    after : Tape
    after = with_records f.start (file_records f.bytes) t

    go : (b : Bool) → keep f ≡ b → record_at (with_files (filter keep fs) after) k ≡ record_at (with_files fs after) k
        → record_at (with_files (if b then f ∷ filter keep fs else filter keep fs) t) k ≡ record_at (with_files fs after) k
    go true e rest = rest
    go false e rest = files_same (filter keep fs) t after k (sym (length_records f.start (file_records f.bytes) t)) lt (sym (one_elsewhere f t k (All-head (λ f. keep f ≡ false → IsOff k f) f fs off e))) ∙ rest

-- ---- at spare records

-- all records of a file are spare ones
abbrev pub IsSpareFile : Version → Tape → NewFile → Type 0
IsSpareFile version u f = (k : ℕ) → f.start ≤ k → k < f.start + file_length f.bytes → IsSpare version u k

-- the tape with one more of them, after others that were written aside (for the files of a batch)
pub file_is_aside : (version : Version) (u t : Tape) (f : NewFile) → IsSpareFile version u f → f.start + file_length f.bytes ≤ length u → IsAside u t
    → IsAside u (with_records f.start (file_records f.bytes) t)
file_is_aside version u t f spare le so_far =
    aside_written version u t f.start (file_records f.bytes) (λ k from under. spare k from (omega (arith, under, records_count f.bytes))) so_far
    (with_records f.start (file_records f.bytes) t) (records_replaced f.start (file_records f.bytes) t (omega (arith, le, records_count f.bytes, so_far.records)))

pub files_are_aside : (version : Version) (u : Tape) (fs : List NewFile) (t : Tape) → All (IsSpareFile version u) fs → All (λ f. f.start + file_length f.bytes ≤ length u) fs → IsAside u t
    → IsAside u (with_files fs t)
files_are_aside version u [] t spare le so_far = so_far
files_are_aside version u (f ∷ fs) t spare le so_far =
    files_are_aside version u fs (with_records f.start (file_records f.bytes) t) (All-tail (IsSpareFile version u) f fs spare) (All-tail (λ f. f.start + file_length f.bytes ≤ length u) f fs le)
    (file_is_aside version u t f (All-head (IsSpareFile version u) f fs spare) (All-head (λ f. f.start + file_length f.bytes ≤ length u) f fs le) so_far)

-- a tape with files aside has the volume before
pub aside_has_volume : (u t : Tape) → IsAside u t → volume_in t ≡ volume_in u
aside_has_volume u t is = volume_agrees t u is.records is.used

-- of files the first of which are written, and the next one is being written
first_ones : (P : NewFile → Type 0) (done rest : List NewFile) → All P (done ++ rest) → All P done
first_ones P [] rest all = All-nil P
first_ones P (f ∷ done) rest all = All-cons P f done (All-head P f (done ++ rest) all) (first_ones P done rest (All-tail P f (done ++ rest) all))

next_one : (P : NewFile → Type 0) (done : List NewFile) (f : NewFile) (rest : List NewFile) → All P (done ++ f ∷ rest) → P f
next_one P [] f rest all = All-head P f rest all
next_one P (g ∷ done) f rest all = next_one P done f rest (All-tail P g (done ++ f ∷ rest) all)

module _ (version : Version) (u : Tape) where
  abbrev pub IsAsideFile : NewFile → Type 0
  IsAsideFile f = IsSpareFile version u f × (f.start + file_length f.bytes ≤ length u)

  -- the first files are aside
  pub some_aside : (done rest : List NewFile) → All IsAsideFile (done ++ rest) → IsAside u (with_files done u)
  some_aside done rest all =
      let first = first_ones IsAsideFile done rest all in
      files_are_aside version u done u (λ k d lt. (first k d lt).0) (λ k d lt. (first k d lt).1) (aside_here u)

  -- and so is what a stop or a trouble leaves of the next one
  pub next_aside : (done : List NewFile) (f : NewFile) (rest : List NewFile) (c : Tape) → All IsAsideFile (done ++ f ∷ rest)
      → PartlyReplaced f.start (file_records f.bytes) (with_files done u) c → IsAside u c
  next_aside done f rest c all partly =
      let here = next_one IsAsideFile done f rest all in
      aside_partly version u (with_files done u) f.start (file_records f.bytes) (λ k from under. here.0 k from (omega (arith, under, records_count f.bytes))) (some_aside done (f ∷ rest) all) c partly

-- ---- once more

-- a record is none of the files, or it is the same on all tapes with them
fixed : (fs : List NewFile) (n k : ℕ) → k < n → All (λ f. f.start + file_length f.bytes ≤ n) fs
    → All (IsOff k) fs ⊎ ((x y : Tape) → length x ≡ n → length y ≡ n → record_at (with_files fs x) k ≡ record_at (with_files fs y) k)
fixed [] n k lt short = inl (All-nil (IsOff k))
fixed (f ∷ fs) n k lt short = elim (fixed fs n k lt (All-tail (λ f. f.start + file_length f.bytes ≤ n) f fs short)) [
  | inr same ↦ inr (λ x y size_x size_y. same (with_records f.start (file_records f.bytes) x) (with_records f.start (file_records f.bytes) y)
      (length_records f.start (file_records f.bytes) x ∙ size_x) (length_records f.start (file_records f.bytes) y ∙ size_y))
  | inl off ↦ elim (cases_lt k f.start) [
    | inl before ↦ inl (All-cons (IsOff k) f fs (inl before) off)
    | inr from ↦ elim (cases_lt k (f.start + file_length f.bytes)) [
      | inr past ↦ inl (All-cons (IsOff k) f fs (inr past) off)
      | inl under ↦ inr (λ x y size_x size_y.
          files_elsewhere fs (with_records f.start (file_records f.bytes) x) k off ∙ written x size_x from under ∙ sym (written y size_y from under)
          ∙ sym (files_elsewhere fs (with_records f.start (file_records f.bytes) y) k off))
    ]
  ]
]
  where
    written : (t : Tape) → length t ≡ n → f.start ≤ k → k < f.start + file_length f.bytes
        → record_at (with_records f.start (file_records f.bytes) t) k ≡ get_or (file_records f.bytes) (k - f.start) []
    written t size from under =
        let long : f.start + file_length f.bytes ≤ n = All-head (λ f. f.start + file_length f.bytes ≤ n) f fs short in
        let at : k ≡ f.start + (k - f.start) = omega (arith, from) in
        ap (record_at (with_records f.start (file_records f.bytes) t)) at
        ∙ (records_replaced f.start (file_records f.bytes) t (omega (arith, long, size, records_count f.bytes))).within (k - f.start) (omega (arith, from, under, records_count f.bytes))

-- to write the files once more changes nothing
pub files_again : (fs : List NewFile) (t : Tape) → All (λ f. f.start + file_length f.bytes ≤ length t) fs → with_files fs (with_files fs t) ≡ with_files fs t
files_again fs t short = ext_get_or [] (with_files fs (with_files fs t)) (with_files fs t) (length_files fs (with_files fs t)) (λ k lt.
    let less : k < length t = omega (arith, lt, length_files fs (with_files fs t), length_files fs t) in
    elim (fixed fs (length t) k less short) [
      | inl off ↦ files_elsewhere fs (with_files fs t) k off
      | inr same ↦ same (with_files fs t) t (length_files fs t) refl
    ])
