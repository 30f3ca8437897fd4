-- How the calls that keep a file in a folder add up.
use Rattle.std.proofs.Common.{◌≡◌, ◌⊎◌, inl, inr, ⊎_elim, ◌≤◌, ℕ, List, true, false, ap, sym, subst, ◌∙◌, arith}
use Rattle.std.specs.Prelude.{Option, Some, None, is_some}
use Rattle.lif_model.specs.Causes.{Rose}
use Rattle.il_ports.proofs.InsertFaults.{rose_within}
use Rattle.tape_folder.specs.Folders.{FolderGoesOn, FolderView, IsFolder, IsUnusedName, IsUsedName, Nothing, SameFolder, ShowsFiles, file_in_folder, is_hidden, part_name}
use Rattle.tape_folder.specs.Keeping.{FileKept, IsGone, IsPartName, IsPartOpened, KeptIs, KeptMakes, OfPart, PartCloses, EndMakes, PartEndsAs, PartEnds, PartIsUsed, Steps, WasUnable}
use Rattle.tape_folder.specs.declared.keeping.Kept.{Kept}
use Rattle.tape_folder.specs.declared.keeping.Kept.TheVariants as kept

-- ---- steps

pub same_on : (v u w : FolderView) → SameFolder v u → SameFolder u w → SameFolder v w
same_on v u w a b = record {
  path = b.path ∙ a.path;
  made = λ there. b.made (a.made there);
  others = λ name. b.others name ∙ a.others name;
}

pub steps_on : (first second all : List ℕ → Option (List ℕ) → Type 0) (v u w : FolderView) → ((name : List ℕ) (content : Option (List ℕ)) → first name content → all name content)
    → ((name : List ℕ) (content : Option (List ℕ)) → second name content → all name content) → Steps first v u → Steps second u w → Steps all v w
steps_on first second all v u w in_first in_second a b = record {
  folder = same_on v u w a.folder b.folder;
  known = b.known ∙ a.known;
  files = λ name. ⊎_elim (λ same. ⊎_elim (λ was. inl (same ∙ was)) (λ made. inr (in_first name _ (subst (first name) (sym same) made))) (a.files name)) (λ made. inr (in_second name _ made)) (b.files name);
  leaves = λ name content is. ⊎_elim (λ was. ⊎_elim (λ old. inl old) (λ made. inr (in_first name content made)) (a.leaves name content was)) (λ made. inr (in_second name content made)) (b.leaves name content is);
  left = λ name content is. ⊎_elim (λ was. before name content (a.left name content was)) (⊎_elim (λ was. before name content (inr (a.leaves name content was))) (λ made. inr (inr (in_second name content made)))) (b.left name content is);
  failures = omega (arith, a.failures, b.failures);
  unremoved = omega (arith, a.unremoved, b.unremoved);
}
  where
    before : (name : List ℕ) (content : Option (List ℕ)) → v.left name content ⊎ (v.leaves name content ⊎ first name content) → v.left name content ⊎ (v.leaves name content ⊎ all name content)
    before name content = ⊎_elim inl (⊎_elim (λ was. inr (inl was)) (λ made. inr (inr (in_first name content made))))

-- ---- the part file

-- the part file was changed before
pub ends_after : (name : List ℕ) (text : Option (List ℕ)) (v u w : FolderView) (answer : Kept) → IsFolder v → is_hidden name ≡ false → u.part ≡ v.part → Steps (OfPart v) v u → PartEnds name text u w answer → PartEnds name text v w answer
ends_after name text v u w answer folder plain same first ends = record {
  closed = ends.closed;
  steps = steps_on (OfPart v) (λ other content. OfPart u other content ⊎ EndMakes name text answer other content) _ v u w (λ other content part. inl part) (λ other content. ⊎_elim (λ part. inl (sym same ∙ part)) inr) first ends.steps;
  gone = gone_since v u w same first.unremoved ends.gone;
  answer_is = as_answer answer ends.answer_is;
}
  where
    gone_since : (v u w : FolderView) → u.part ≡ v.part → v.unremoved ≤ u.unremoved → IsGone u w → IsGone v w
    gone_since v u w same le = ⊎_elim (λ rose. inl (rose_within v.unremoved u.unremoved w.unremoved w.unremoved le rose (omega arith))) (λ gone. inr (λ part is. gone part (same ∙ is)))

    no_part : v.part ≡ Some name → ⊥
    no_part is = let no : true ≡ false = sym (folder.hidden name is) ∙ plain in cc

    as_answer : (answer : Kept) → PartEndsAs name text u w answer → PartEndsAs name text v w answer
    as_answer kept.Written is = λ known. is (first.known ∙ known)
    as_answer kept.WasThere is = is
    as_answer kept.Differs is = λ known. ⊎_elim (λ file. ⊎_elim (λ same. inl (ap is_some (sym same) ∙ file)) (λ part. absurd (no_part part)) (first.files name))
        (λ other. inr (sym (first.folder.others name) ∙ other)) (is (first.known ∙ known))
    as_answer kept.NotWritten is = rose_within v.failures u.failures w.failures w.failures first.failures is (omega arith)

-- the bytes could not be written
pub ends_unfilled : (name : List ℕ) (text : Option (List ℕ)) (v u w : FolderView) → u.part ≡ v.part → Steps (OfPart v) v u → Rose v.failures u.failures → PartCloses u w → PartEnds name text v w kept.NotWritten
ends_unfilled name text v u w same first rose closes = record {
  closed = closes.closed;
  steps = steps_on (OfPart v) (OfPart u) _ v u w (λ other content part. inl part) (λ other content part. inl (sym same ∙ part)) first closes.steps;
  gone = ⊎_elim (λ rose. inl (rose_within v.unremoved u.unremoved w.unremoved w.unremoved first.unremoved rose (omega arith))) (λ gone. inr (λ part is. gone part (same ∙ is))) closes.gone;
  answer_is = rose_within v.failures v.failures u.failures w.failures (omega arith) rose closes.steps.failures;
}

-- ---- the file that is kept

-- a name that is not hidden is no part file's
no_part_name : (name : List ℕ) → is_hidden name ≡ false → IsPartName name → ⊥
no_part_name name plain part = let no : true ≡ false = sym (ap is_hidden part.2) ∙ plain in cc

some_same : {x y : List ℕ} → ◌≡◌ {A = Option (List ℕ)} (Some x) (Some y) → x ≡ y
some_same e = cc

module _ (name bytes : List ℕ) (v u w : FolderView) (folder : IsFolder v) where
  -- a part file was opened, and used
  module _ (plain : is_hidden name ≡ false) (free : IsUnusedName name v) (opened : IsPartOpened v u) where
    part_is : (other : List ℕ) → u.part ≡ Some other → other ≡ part_name opened.number
    part_is other is = some_same (sym is ∙ opened.is_open)

    is_part : (other : List ℕ) → u.part ≡ Some other → IsPartName other
    is_part other is = (opened.number, opened.below, part_is other is)

    no_part : u.part ≡ Some name → ⊥
    no_part is = no_part_name name plain (is_part name is)

    end_named : (k : Kept) (text : Option (List ℕ)) (other : List ℕ) (content : Option (List ℕ)) → EndMakes name text k other content → other ≡ name
    end_named kept.Written text other content made = made.0
    end_named kept.WasThere text other content made = absurd made
    end_named kept.Differs text other content made = absurd made
    end_named kept.NotWritten text other content made = absurd made

    end_made : (k : Kept) (text : Option (List ℕ)) (other : List ℕ) (content : Option (List ℕ)) → text ≡ Some bytes → EndMakes name text k other content → KeptMakes name bytes k other content
    end_made kept.Written text other content is made = (made.0, made.1 ∙ is)
    end_made kept.WasThere text other content is made = made
    end_made kept.Differs text other content is made = made
    end_made kept.NotWritten text other content is made = made

    unused : IsUsedName name u → ⊥
    unused = ⊎_elim (λ file. ⊎_elim (λ same. let no : false ≡ true = sym (ap is_some (same ∙ free.no_file)) ∙ file in cc) no_part (opened.steps.files name))
        (λ other. let no : false ≡ true = sym (opened.steps.folder.others name ∙ free.no_other) ∙ other in cc)

    pub kept_by_part : (k : Kept) → PartIsUsed name bytes u w k → FileKept name bytes k v w
    kept_by_part k used = record {
      folder = all.folder;
      closed = used.ends.closed;
      known = all.known;
      answer_is = answered k used.text text_is used.ends;
      others = λ other. ⊎_elim inl (⊎_elim (λ part. inr (inr (is_part other part, was_free other part))) (λ made. inr (inl (end_named k used.text other _ made)))) (all.files other);
      parts = ⊎_elim (λ rose. inl (rose_within v.unremoved u.unremoved w.unremoved w.unremoved opened.steps.unremoved rose (omega arith)))
          (λ gone. inr (λ other named. ⊎_elim (λ same. same) (⊎_elim (λ part. gone other part ∙ sym (was_free other part)) (λ made. absurd (no_part_name name plain (as_named other (end_named k used.text other _ made) named)))) (all.files other))) used.ends.gone;
      leaves = λ other content known plain left. ⊎_elim inl (⊎_elim (λ part. absurd (plain (is_part other part))) (λ made. inr (end_made k used.text other content (text_is known) made))) (all.leaves other content left);
      left = λ other content known plain left. ⊎_elim inl (⊎_elim (λ was. inl (folder.now other content was)) (⊎_elim (λ part. absurd (plain (is_part other part))) (λ made. inr (end_made k used.text other content (text_is known) made)))) (all.left other content left);
      failures = all.failures;
      unremoved = all.unremoved;
    }
      where
        all : Steps (λ other content. OfPart u other content ⊎ EndMakes name used.text k other content) v w
        all = steps_on (OfPart u) (λ other content. OfPart u other content ⊎ EndMakes name used.text k other content) _ v u w (λ other content part. inl part) (λ other content made. made) opened.steps used.ends.steps

        text_is : ShowsFiles v → used.text ≡ Some bytes
        text_is known = used.text_is (opened.steps.known ∙ known) (opened.empty (opened.steps.known ∙ known))

        was_free : (other : List ℕ) → u.part ≡ Some other → file_in_folder other v.files ≡ None
        was_free other part = subst (λ (x : List ℕ). file_in_folder x v.files ≡ None) (sym (part_is other part)) opened.free.no_file

        as_named : (other : List ℕ) → other ≡ name → IsPartName other → IsPartName name
        as_named other is named = subst IsPartName is named

        answered : (k : Kept) (text : Option (List ℕ)) → (ShowsFiles v → text ≡ Some bytes) → PartEnds name text u w k → KeptIs name bytes v w k
        answered kept.Written text text_is ends = λ known. (free, ends.answer_is (opened.steps.known ∙ known) ∙ text_is known)
        answered kept.WasThere text text_is ends = absurd ends.answer_is
        answered kept.Differs text text_is ends = λ known. absurd (unused (ends.answer_is (opened.steps.known ∙ known)))
        answered kept.NotWritten text text_is ends = (
          ⊎_elim (λ same. ⊎_elim (λ was. same ∙ was) (λ part. absurd (no_part part)) (opened.steps.files name)) (⊎_elim (λ part. absurd (no_part part)) (λ none. absurd none)) (ends.steps.files name),
          inl (rose_within v.failures u.failures w.failures w.failures opened.steps.failures ends.answer_is (omega arith)),
        )

  -- a call that changes no file was made before
  module _ (on : FolderGoesOn Nothing v u) where
    same : (other : List ℕ) → file_in_folder other u.files ≡ file_in_folder other v.files
    same other = ⊎_elim (λ e. e) (λ none. absurd none) (on.files other)

    used : (other : List ℕ) → IsUsedName other u → IsUsedName other v
    used other = ⊎_elim (λ file. inl (ap is_some (sym (same other)) ∙ file)) (λ there. inr (sym (on.folder.others other) ∙ there))

    unable : WasUnable u w → WasUnable v w
    unable = ⊎_elim (λ rose. inl (rose_within v.failures u.failures w.failures w.failures on.failures rose (omega arith)))
        (λ taken. inr (λ number lt known. used (part_name number) (taken number lt (on.known ∙ known))))

    before : (other : List ℕ) (content : Option (List ℕ)) → u.leaves other content → v.leaves other content
    before other content left = ⊎_elim (λ was. was) (λ none. absurd none) (on.leaves other content left)

    since : (other : List ℕ) (content : Option (List ℕ)) → u.left other content → v.left other content
    since other content left = ⊎_elim (λ was. was) (λ now. folder.now other content (before other content now)) (on.since other content left)

    answered_since : (k : Kept) → KeptIs name bytes u w k → KeptIs name bytes v w k
    answered_since kept.Written is = λ known. let both = is (on.known ∙ known) in
        (record { no_file = sym (same name) ∙ both.0.no_file; no_other = sym (on.folder.others name) ∙ both.0.no_other }, both.1)
    answered_since kept.WasThere is = λ known. let both = is (on.known ∙ known) in (sym (same name) ∙ both.0, both.1)
    answered_since kept.Differs is = λ known. let all = is (on.known ∙ known) in (used name all.0, (λ here. all.1 (same name ∙ here)), all.2 ∙ same name)
    answered_since kept.NotWritten is = (is.0 ∙ same name, unable is.1)

    pub kept_since : (k : Kept) → FileKept name bytes k u w → FileKept name bytes k v w
    kept_since k is = record {
      folder = same_on v u w on.folder is.folder;
      closed = is.closed;
      known = is.known ∙ on.known;
      answer_is = answered_since k is.answer_is;
      others = λ other. ⊎_elim (λ stays. inl (stays ∙ same other)) (⊎_elim (λ named. inr (inl named)) (λ part. inr (inr (part.0, sym (same other) ∙ part.1)))) (is.others other);
      parts = ⊎_elim (λ rose. inl (rose_within v.unremoved u.unremoved w.unremoved w.unremoved on.unremoved rose (omega arith))) (λ stay. inr (λ other part. stay other part ∙ same other)) is.parts;
      leaves = λ other content known plain left. ⊎_elim (λ was. inl (before other content was)) inr (is.leaves other content (on.known ∙ known) plain left);
      left = λ other content known plain left. ⊎_elim (λ was. inl (since other content was)) inr (is.left other content (on.known ∙ known) plain left);
      failures = omega (arith, on.failures, is.failures);
      unremoved = omega (arith, on.unremoved, is.unremoved);
    }
