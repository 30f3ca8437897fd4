-- What the parts of a line are, by the line.
use Rattle.std.proofs.Common.{◌≡◌, ℕ, ◌<◌, ◌+◌, ◌-◌, ◌*◌, ◌%◌, ◌++◌, ◌==◌, ◌∙◌, sym, ap, refl, true, false, not, List, [], ◌∷◌, length, take, drop, nat_eq, slice_index, arith, eqb-true, Option, Some, None, suc}
use Rattle.std.proofs.Math.Seq.{drop-append_seam, drop-append-add}
use Rattle.std.proofs.lemmas.Bool.{and_parts}
use Rattle.std.specs.Fmt.{decimal, digits}
use Rattle.std.specs.List.{fold, before_first, position_or_len}
use Rattle.il_frames.specs.declared.frame.Frame.{Frame}
use Rattle.il_frames.specs.declared.entry.Entry.{Entry}
use Rattle.il_frames.specs.declared.entry.Outcome.{Outcome}
use Rattle.il_frames.specs.declared.entry.Outcome.TheVariants as outcome
use Rattle.il_frames.specs.Entries.{outcome_text, entry_text, IsOutcome, IsEntry}
use Rattle.il_frames.specs.Texts.{text_of}
use Rattle.il_frames.specs.Names.{is_space, candidate_of}
use Rattle.il_frames.proofs.ReadBack.{all_below, all_below-at, candidate_of-append, candidate_of-text}
use Rattle.il_frames.proofs.EntryLemmas.{has_no_space, has_no_space-decimal, entry_text-parts, tail_of, entry, same_entry}

-- the number that decimal digits spell, as eight bits hold it
abbrev pub spelled : List ℕ → ℕ
spelled digits = fold (λ number digit. (number * 10 % 256 + (digit + 256 - 48) % 256) % 256) 0 digits

all_spelled : all_below (λ n. spelled (decimal n) == n) 256 ≡ true
unfolding all_below digits
all_spelled = refl

pub spelled-decimal : (n : ℕ) → n < 256 → spelled (decimal n) ≡ n
spelled-decimal n h = eqb-true _ _ (all_below-at (λ k. spelled (decimal k) == k) 256 n all_spelled h)

-- ---- how a frame ended

-- a text whose second byte is `=` has a frame's text after its third
pub data ReadsBack (rest : List ℕ) (o : Outcome) : Type 0 where
  Reads : (f : Frame) → o ≡ outcome.Back f → candidate_of rest ≡ Some f → ReadsBack rest o

apart : (m n : ℕ) → nat_eq m n ≡ false → m ≡ n → ⊥
apart m n differ same = grind arith

pub reads_back_at : (o : Outcome) (text rest : List ℕ) → IsOutcome o → outcome_text o ≡ text →
    slice_index text 1 ≡ 61 → rest ≡ drop 3 text → ReadsBack rest o
reads_back_at (outcome.Back f) text rest h is mark cut =
    let tail : rest ≡ text_of f = cut ∙ ap (λ (s : List ℕ). drop 3 s) (sym is) in
    Reads f refl (candidate_of-text f rest h (sym tail))
reads_back_at (outcome.Taken q) text rest h is mark cut =
    absurd (apart 62 61 refl (ap (λ (s : List ℕ). slice_index s 1) is ∙ mark))
reads_back_at (outcome.Lost q) text rest h is mark cut =
    absurd (apart 33 61 refl (ap (λ (s : List ℕ). slice_index s 1) is ∙ mark))

pub back_none : (o : Outcome) (rest : List ℕ) → ReadsBack rest o → candidate_of rest ≡ None → ⊥
back_none o rest (Reads f is found) none = let no : None ≡ Some f = sym none ∙ found in cc

pub back_some : (o : Outcome) (rest : List ℕ) (g : Frame) → ReadsBack rest o → candidate_of rest ≡ Some g →
    Some (outcome.Back g) ≡ Some o
back_some o rest g (Reads f is found) some =
    let same : Some g ≡ Some f = sym some ∙ found in
    let frame : g ≡ f = cc in
    ap (λ (x : Frame). Some (outcome.Back x)) frame ∙ ap Some (sym is)

-- ---- the parts of a line

taken_more : (n c : ℕ) (xs : List ℕ) → take (1 + n) (c ∷ xs) ≡ c ∷ take n xs
taken_more n c xs = let one : 1 + n ≡ suc n = omega arith in rw one refl

no_space_first : (c : ℕ) (xs : List ℕ) → not (c == 32) ≡ true →
    before_first is_space (c ∷ xs) ≡ c ∷ before_first is_space xs
no_space_first c xs h = rw h (taken_more (position_or_len is_space xs) c xs)

-- what stands before the first space
before_space : (word rest : List ℕ) → has_no_space word ≡ true → before_first is_space (word ++ 32 ∷ rest) ≡ word
before_space [] rest h = refl
before_space (c ∷ cs) rest h =
    let parts = and_parts (not (c == 32)) (has_no_space cs) h in
    no_space_first c (cs ++ 32 ∷ rest) parts.0
    ∙ ap (λ (xs : List ℕ). c ∷ xs) (before_space cs rest parts.1)

parts : (e : Entry) (line after_mark digits after_source : List ℕ) → IsEntry e → entry_text e ≡ line →
    after_mark ≡ drop 2 line → digits ≡ before_first is_space after_mark →
    after_source ≡ drop (length digits + 1) after_mark → (digits ≡ decimal e.source) × (after_source ≡ tail_of e)
parts e line after_mark digits after_source h is marked worded sourced =
    let whole : after_mark ≡ decimal e.source ++ 32 ∷ tail_of e =
    marked ∙ ap (λ (s : List ℕ). drop 2 s) (sym is ∙ entry_text-parts e) in
    let word : digits ≡ decimal e.source =
    worded ∙ ap (before_first is_space) whole
    ∙ before_space (decimal e.source) (tail_of e) (has_no_space-decimal e.source h.0) in
    let rest : after_source ≡ tail_of e = sourced
    ∙ ap (λ (d : List ℕ). drop (length d + 1) after_mark) word
    ∙ ap (λ (s : List ℕ). drop (length (decimal e.source) + 1) s) whole
    ∙ drop-append-add (decimal e.source) (32 ∷ tail_of e) 1 in
    (word, rest)

-- what the parts of a line lead to, where each is found where the one before it ends
pub record Spelled (e : Entry) (digits after_source : List ℕ) : Type 0 where
  pub source : digits ≡ decimal e.source
  pub frame : candidate_of after_source ≡ Some e.frame
  pub rest : after_source ≡ text_of e.frame ++ outcome_text e.outcome

pub spelled_parts : (e : Entry) (line after_mark digits after_source : List ℕ) → IsEntry e → entry_text e ≡ line →
    after_mark ≡ drop 2 line → digits ≡ before_first is_space after_mark →
    after_source ≡ drop (length digits + 1) after_mark → Spelled e digits after_source
spelled_parts e line after_mark digits after_source h is marked worded sourced =
    let both = parts e line after_mark digits after_source h is marked worded sourced in
    record {
      source = both.0;
      frame = ap candidate_of both.1 ∙ candidate_of-append e.frame (outcome_text e.outcome) h.1;
      rest = both.1;
    }

pub not_none : {T : Type 0} (o : Option T) (x : T) → o ≡ Some x → o ≡ None → ⊥
not_none o x some none = let no : None ≡ Some x = sym none ∙ some in cc

pub same_some : {T : Type 0} (o : Option T) (x y : T) → o ≡ Some x → o ≡ Some y → x ≡ y
same_some o x y p q = let same : Some x ≡ Some y = sym p ∙ q in cc

pub outcome_part : (e : Entry) (digits after_source after_frame : List ℕ) (f : Frame) → Spelled e digits after_source →
    f ≡ e.frame → after_frame ≡ drop (length (text_of f)) after_source → outcome_text e.outcome ≡ after_frame
outcome_part e digits after_source after_frame f parts same cut =
    sym (cut ∙ ap (λ (g : Frame). drop (length (text_of g)) after_source) same
    ∙ ap (λ (s : List ℕ). drop (length (text_of e.frame)) s) parts.rest
    ∙ drop-append_seam (text_of e.frame) (outcome_text e.outcome))

pub same_parts : (e : Entry) (s : ℕ) (f : Frame) (o : Outcome) → s ≡ e.source → f ≡ e.frame → o ≡ e.outcome →
    Some (entry s f o) ≡ Some e
same_parts e s f o p q r = ap Some (same_entry (entry s f o) e p q r)
