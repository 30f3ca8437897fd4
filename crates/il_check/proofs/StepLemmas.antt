-- What the readers know after one more line.
use Rattle.std.proofs.Common.{◌≡◌, ◌↔◌, ◌≢◌, ◌⊎◌, ◌∙◌, ◌<◌, ◌≤◌, ◌+◌, ◌==◌, inl, inr, ℕ, Bool, true, false, nat_lt, List, [], ◌∷◌, ◌++◌, length, Option, Some, None, refl, sym, ap, subst, arith, length-append, append-nil, replicate}
use Rattle.std.specs.Prelude.{Result, Ok, Err, take}
use Rattle.std.proofs.lemmas.List.Elements.{All-nil}
use Rattle.il_frames.specs.declared.entry.Entry.{Entry}
use Rattle.il_frames.specs.Entries.{IsEntry, entry_text}
use Rattle.il_frames.proofs.EntryLemmas.{only_entry}
use Rattle.lif_model.specs.Tape.{Tape}
use Rattle.loop_model.specs.Loops.{host_loop}
use Rattle.loop_model.specs.Roles.{all_without_roles, has_one_talker}
use Rattle.loop_model.specs.Units.{RecordUnit}
use Rattle.trace_readers.specs.declared.expected.UnitFault.{UnitFault}
use Rattle.trace_readers.specs.declared.expected.UnitFault.TheVariants as unit
use Rattle.trace_readers.specs.Talkers.{Talk, IsTalkAfter}
use Rattle.trace_readers.proofs.TalkerLemmas.{known_first}
use Rattle.il_device.specs.Roles.{no_roles}
use Rattle.trace_readers.specs.Exchanges.{IsPrefix, IsReadAfter}
use Rattle.trace_readers.specs.Effects.{IsEffectAfter, EndsUnit}
use Rattle.trace_readers.specs.Expected.{unit_fault}
use Rattle.il_check.specs.declared.verdict.TraceFault.{TraceFault}
use Rattle.il_check.specs.declared.verdict.TraceFault.TheVariants as fault
use Rattle.il_check.specs.declared.tracing.Readers.{Readers}
use Rattle.il_check.specs.declared.tracing.Tracing.{Tracing}
use Rattle.il_check.specs.Verdicts.{is_entry_line, IsLineAt, HasLineFault, rank_of}
use Rattle.il_check.specs.Tracing.{IsTextWith, EndsFaulty, HasFaultAfter, HaveRead, ReadsLine, IsKnown, HasLines, HasTaken, fault_of_unit}
use Rattle.il_script.specs.LineCut.{LineCut, line_cut, rest_line, lines_of}
use Rattle.il_script.proofs.Cuts.{line_cut-append-line, line_cut-append-open, is_open-push}
use Rattle.std.proofs.lemmas.List.{take_all, take-append-le, length-take-le}
use Rattle.il_check.proofs.TextLemmas.{same_text}
use Rattle.il_check.proofs.LineLemmas.{at_most, below, more_entries, same_entries, fault_before, first_after, fault_last, fault_made, none_skipped}

-- ---- one line

-- the fault with this entry
abbrev AtEntry : ℕ → ℕ → ℕ → List Entry → Entry → TraceFault → Type 0
AtEntry k d size log e fault.NotTalker = has_one_talker (all_without_roles k) (log ++ e ∷ []) ≡ false
AtEntry k d size log e fault.NoExchange = IsPrefix (host_loop k d) (log ++ e ∷ []) → ⊥
AtEntry k d size log e fault.BadUnit = EndsFaulty k d size log unit.BadUnit e
AtEntry k d size log e fault.Unclear = EndsFaulty k d size log unit.Unclear e
AtEntry k d size log e f = ⊥

of_entry : (line : List ℕ) (e : Entry) (P : Entry → Type 0) → IsEntry e → entry_text e ≡ line → IsTextWith line P → P e
of_entry line e P is same has = subst P (only_entry e line is (sym same) has.0 has.1 has.2) has.3

-- a fault of its line is one with it
at_entry : (k d size : ℕ) (log : List Entry) (line : List ℕ) (e : Entry) → IsEntry e → entry_text e ≡ line → (g : TraceFault)
    → HasFaultAfter k d size log line g → AtEntry k d size log e g
at_entry k d size log line e is same fault.BadText has = has e is same
at_entry k d size log line e is same fault.NotTalker has = of_entry line e (λ x. has_one_talker (all_without_roles k) (log ++ x ∷ []) ≡ false) is same has
at_entry k d size log line e is same fault.NoExchange has = of_entry line e (λ x. IsPrefix (host_loop k d) (log ++ x ∷ []) → ⊥) is same has
at_entry k d size log line e is same fault.BadUnit has = of_entry line e (EndsFaulty k d size log unit.BadUnit) is same has
at_entry k d size log line e is same fault.Unclear has = of_entry line e (EndsFaulty k d size log unit.Unclear) is same has
at_entry k d size log line e is same fault.SizeDiffers has = has
at_entry k d size log line e is same fault.NoEffect has = has

-- the line is no entry's text
pub reads_none : (k d : ℕ) (old : Tape) (log : List Entry) (line whole : List ℕ) (r : Readers) → line ≡ take 41 whole
    → ((e : Entry) → IsEntry e → entry_text e ≢ line)
    → let answer : Result (Unit {0}) TraceFault = Err fault.BadText in ReadsLine k d old log whole r answer
reads_none k d old log line whole r front none = (
  λ e is same. none e is ((same_text e whole is).1 same ∙ sym front),
  least,
)
  where
    least : (g : TraceFault) → HasFaultAfter k d (length old) log whole g → rank_of fault.BadText ≤ rank_of g
    least fault.BadText has = omega arith
    least fault.NotTalker has = omega arith
    least fault.NoExchange has = omega arith
    least fault.BadUnit has = omega arith
    least fault.Unclear has = omega arith
    least fault.SizeDiffers has = absurd has
    least fault.NoEffect has = absurd has

-- a line with an entry, which the readers took
module _ (k d : ℕ) (old : Tape) (log : List Entry) (line whole : List ℕ) (e : Entry) (r : Readers) (front : line ≡ take 41 whole) (is : IsEntry e)
    (found : entry_text e ≡ line) where
  same : entry_text e ≡ whole
  same = (same_text e whole is).0 (found ∙ front)

  abbrev Faults : TraceFault → Type 0
  Faults g = HasFaultAfter k d (length old) log whole g

  meets : (g : TraceFault) → Faults g → AtEntry k d (length old) log e g
  meets g has = at_entry k d (length old) log whole e is same g has

  pub reads_talk : IsTalkAfter k (log ++ e ∷ []) r.talkers → r.talkers.had_one ≡ false
      → let answer : Result (Unit {0}) TraceFault = Err fault.NotTalker in ReadsLine k d old log whole r answer
  reads_talk talk none = ((e, is, same, sym talk.had_one ∙ none), least)
    where
      least : (g : TraceFault) → Faults g → rank_of fault.NotTalker ≤ rank_of g
      least fault.BadText has = absurd (meets fault.BadText has)
      least fault.NotTalker has = omega arith
      least fault.NoExchange has = omega arith
      least fault.BadUnit has = omega arith
      least fault.Unclear has = omega arith
      least fault.SizeDiffers has = absurd has
      least fault.NoEffect has = absurd has

  -- with one talker
  module _ (talk : IsTalkAfter k (log ++ e ∷ []) r.talkers) (one : r.talkers.had_one ≡ true) where
    not_two : has_one_talker (all_without_roles k) (log ++ e ∷ []) ≡ false → ⊥
    not_two two = let bad : true ≡ false = sym one ∙ talk.had_one ∙ two in cc

    pub reads_exchange : (b : Bool) → b ≡ false → (b ≡ true) ↔ IsPrefix (host_loop k d) (log ++ e ∷ [])
        → let answer : Result (Unit {0}) TraceFault = Err fault.NoExchange in ReadsLine k d old log whole r answer
    reads_exchange b none prefix = ((e, is, same, λ p. let bad : true ≡ false = sym (prefix.1 p) ∙ none in cc), least)
      where
        least : (g : TraceFault) → Faults g → rank_of fault.NoExchange ≤ rank_of g
        least fault.BadText has = absurd (meets fault.BadText has)
        least fault.NotTalker has = absurd (not_two (meets fault.NotTalker has))
        least fault.NoExchange has = omega arith
        least fault.BadUnit has = omega arith
        least fault.Unclear has = omega arith
        least fault.SizeDiffers has = absurd has
        least fault.NoEffect has = absurd has

    -- within exchanges
    module _ (prefix : IsPrefix (host_loop k d) (log ++ e ∷ [])) (T : Type 0) (taken : Result T UnitFault)
        (faulty : (f : UnitFault) → (taken ≡ Err f) ↔ ((w : RecordUnit) × EndsUnit (host_loop k d) log e w × (unit_fault (length old) w ≡ Some f))) where
      pub reads_bad_unit : taken ≡ Err unit.BadUnit
          → let answer : Result (Unit {0}) TraceFault = Err fault.BadUnit in ReadsLine k d old log whole r answer
      reads_bad_unit bad = ((e, is, same, (faulty unit.BadUnit).0 bad), least)
        where
          least : (g : TraceFault) → Faults g → rank_of fault.BadUnit ≤ rank_of g
          least fault.BadText has = absurd (meets fault.BadText has)
          least fault.NotTalker has = absurd (not_two (meets fault.NotTalker has))
          least fault.NoExchange has = absurd (meets fault.NoExchange has prefix)
          least fault.BadUnit has = omega arith
          least fault.Unclear has = omega arith
          least fault.SizeDiffers has = absurd has
          least fault.NoEffect has = absurd has

      pub reads_unclear : taken ≡ Err unit.Unclear
          → let answer : Result (Unit {0}) TraceFault = Err fault.Unclear in ReadsLine k d old log whole r answer
      reads_unclear bad = ((e, is, same, (faulty unit.Unclear).0 bad), least)
        where
          least : (g : TraceFault) → Faults g → rank_of fault.Unclear ≤ rank_of g
          least fault.BadText has = absurd (meets fault.BadText has)
          least fault.NotTalker has = absurd (not_two (meets fault.NotTalker has))
          least fault.NoExchange has = absurd (meets fault.NoExchange has prefix)
          least fault.BadUnit has =
              let other : Err unit.Unclear ≡ Err unit.BadUnit = sym bad ∙ (faulty unit.BadUnit).1 (meets fault.BadUnit has) in cc
          least fault.Unclear has = omega arith
          least fault.SizeDiffers has = absurd has
          least fault.NoEffect has = absurd has

      pub reads_unit : (f : UnitFault) → taken ≡ Err f
          → let answer : Result (Unit {0}) TraceFault = Err (fault_of_unit f) in ReadsLine k d old log whole r answer
      reads_unit unit.BadUnit bad = reads_bad_unit bad
      reads_unit unit.Unclear bad = reads_unclear bad

      pub reads_fine : (x : T) → taken ≡ Ok x → IsReadAfter k (log ++ e ∷ []) r.exchanges → IsEffectAfter d old (log ++ e ∷ []) r.effects
          → let answer : Result (Unit {0}) TraceFault = Ok tt in ReadsLine k d old log whole r answer
      reads_fine x fine exchanges effect = (
        (e, is, same, record { talk = talk; one = one; exchanges = exchanges; effect = effect }),
        none,
      )
        where
          not_faulty : (f : UnitFault) → EndsFaulty k d (length old) log f e → ⊥
          not_faulty f has = let bad : Ok x ≡ Err f = sym fine ∙ (faulty f).1 has in cc

          none : (g : TraceFault) → Faults g → ⊥
          none fault.BadText has = meets fault.BadText has
          none fault.NotTalker has = not_two (meets fault.NotTalker has)
          none fault.NoExchange has = meets fault.NoExchange has prefix
          none fault.BadUnit has = not_faulty unit.BadUnit (meets fault.BadUnit has)
          none fault.Unclear has = not_faulty unit.Unclear (meets fault.Unclear has)
          none fault.SizeDiffers has = has
          none fault.NoEffect has = has

-- ---- what is known of the lines so far

abbrev Lines : Type 0
Lines = List (List ℕ)

-- no line is among none
nowhere : (x : ℕ) (front : Lines) (line : List ℕ) → IsLineAt [] x front line → ⊥
nowhere x [] line at = absurd (omega (arith, ap (λ (l : Lines). length l) at.are))
nowhere x (y ∷ front) line at = absurd (omega (arith, ap (λ (l : Lines). length l) at.are))

one_more : (lines : Lines) (line : List ℕ) → length (lines ++ line ∷ []) ≡ length lines + 1
one_more lines line = omega (arith, length-append lines (line ∷ []))

-- the place of a fault among the lines so far and one more
pub not_yet : (k d size : ℕ) (lines : Lines) (line : List ℕ) → ((x : ℕ) (f : TraceFault) → x ≤ length lines → HasLineFault k d size lines x f → ⊥)
    → ((f : TraceFault) → HasLineFault k d size (lines ++ line ∷ []) (length lines + 1) f → ⊥)
    → (x : ℕ) (f : TraceFault) → x ≤ length (lines ++ line ∷ []) → HasLineFault k d size (lines ++ line ∷ []) x f → ⊥
not_yet k d size lines line none last x f le has = by (nat_lt (length lines) x) refl
  where
    by : (b : Bool) → nat_lt (length lines) x ≡ b → ⊥
    by true e =
        let at : x ≡ length lines + 1 = omega (arith, below (length lines) x e, le, one_more lines line) in
        last f (subst (λ (n : ℕ). HasLineFault k d size (lines ++ line ∷ []) n f) at has)
    by false e = none x f (at_most (length lines) x e) (fault_before k d size lines (line ∷ []) x f has (at_most (length lines) x e))

pub known_skipped : (k d : ℕ) (old : Tape) (lines : Lines) (line : List ℕ) (r : Readers) → is_entry_line line ≡ false
    → IsKnown k d old lines r None → IsKnown k d old (lines ++ line ∷ []) r None
known_skipped k d old lines line r unmarked known = (
  known.0,
  same_entries lines line known.0 known.1 unmarked,
  known.2,
  not_yet k d (length old) lines line known.3 (λ f has. none_skipped k d (length old) lines line f unmarked has),
)

pub known_faulty : (k d : ℕ) (old : Tape) (lines : Lines) (line : List ℕ) (r s : Readers) (x : ℕ) (f : TraceFault)
    → IsKnown k d old lines r (Some (x, f)) → IsKnown k d old (lines ++ line ∷ []) s (Some (x, f))
known_faulty k d old lines line r s x f known = (
  omega (arith, known.0, one_more lines line),
  first_after k d (length old) lines (line ∷ []) x f known.1 known.0,
)

pub known_read : (k d : ℕ) (old : Tape) (lines : Lines) (line : List ℕ) (r s : Readers) → is_entry_line line ≡ true
    → IsKnown k d old lines r None
    → ((log : List Entry) → HaveRead k d old log r → let answer : Result (Unit {0}) TraceFault = Ok tt in ReadsLine k d old log line s answer)
    → IsKnown k d old (lines ++ line ∷ []) s None
known_read k d old lines line r s marked known reads =
    let read = reads known.0 known.2 in (
      known.0 ++ read.0.0 ∷ [],
      more_entries lines line known.0 read.0.0 known.1 read.0.1 read.0.2 marked,
      read.0.3,
      not_yet k d (length old) lines line known.3 (λ f has. read.1 f (fault_last k d (length old) lines line known.0 f known.1 has)),
    )

pub known_bad : (k d : ℕ) (old : Tape) (lines : Lines) (line : List ℕ) (r s : Readers) (f : TraceFault) → is_entry_line line ≡ true
    → IsKnown k d old lines r None
    → ((log : List Entry) → HaveRead k d old log r → let answer : Result (Unit {0}) TraceFault = Err f in ReadsLine k d old log line s answer)
    → IsKnown k d old (lines ++ line ∷ []) s (Some (length lines + 1, f))
known_bad k d old lines line r s f marked known reads =
    let read = reads known.0 known.2 in (
      omega (arith, one_more lines line),
      record {
        has = fault_made k d (length old) lines line known.0 f known.1 marked (sym known.2.talk.had_one ∙ known.2.one) read.0;
        first = λ y g has. by y g has (nat_lt (length lines) y) (nat_lt (length lines + 1) y) refl refl;
      },
    )
  where
    by : (y : ℕ) (g : TraceFault) → HasLineFault k d (length old) (lines ++ line ∷ []) y g → (a b : Bool) → nat_lt (length lines) y ≡ a
        → nat_lt (length lines + 1) y ≡ b → (length lines + 1 < y) ⊎ ((length lines + 1 ≡ y) × (rank_of f ≤ rank_of g))
    by y g has a true e e' = inl (below (length lines + 1) y e')
    by y g has true false e e' =
        let at : length lines + 1 ≡ y = omega (arith, below (length lines) y e, at_most (length lines + 1) y e') in
        inr (at, (reads known.0 known.2).1 g (fault_last k d (length old) lines line known.0 g known.1 (subst (λ (n : ℕ). HasLineFault k d (length old) (lines ++ line ∷ []) n g) (sym at) has)))
    by y g has false false e e' =
        absurd (known.3 y g (at_most (length lines) y e) (fault_before k d (length old) lines (line ∷ []) y g has (at_most (length lines) y e)))

-- before the first byte
pub nothing_taken : (k d : ℕ) (old : Tape) (t : Tracing) → t.lines ≡ 0 → t.fault ≡ None → t.kept.items ≡ [] → IsTalkAfter k [] t.readers.talkers
    → IsReadAfter k [] t.readers.exchanges → IsEffectAfter d old [] t.readers.effects → HasTaken k d old [] t
nothing_taken k d old t none fine empty talk exchanges effect = record {
  lines = record { count = none; known = subst (λ (o : Option (ℕ × TraceFault)). IsKnown k d old [] t.readers o) (sym fine) known };
  kept = empty;
}
  where
    known : IsKnown k d old [] t.readers None
    known = (
      [],
      record { entries = All-nil IsEntry; texts = refl },
      record { talk = talk; one = talk.had_one ∙ sym (known_first k silent refl refl).had_one; exchanges = exchanges; effect = effect },
      λ x f le has. none_at x f le has,
    )
      where
        silent : Talk
        silent = record { roles = replicate k no_roles; had_one = true }

        none_at : (x : ℕ) (f : TraceFault) → x ≤ 0 → HasLineFault k d (length old) [] x f → ⊥
        none_at x fault.BadText le has = nowhere x has.0 has.1 has.2
        none_at x fault.NotTalker le has = nowhere x has.2.front (entry_text has.1) has.2.stands
        none_at x fault.NoExchange le (inl has) = nowhere x has.2.front (entry_text has.1) has.2.stands
        none_at x fault.NoExchange le (inr has) = absurd (omega (arith, le, has.0))
        none_at x fault.BadUnit le has = nowhere x has.2.front (entry_text has.1) has.2.stands
        none_at x fault.Unclear le has = nowhere x has.2.front (entry_text has.1) has.2.stands
        none_at x fault.SizeDiffers le has = has
        none_at x fault.NoEffect le has = has

-- ---- bytes

-- a line feed, with which the line is complete
pub feed_taken : (k d : ℕ) (old : Tape) (bytes : List ℕ) (t s : Tracing)
    → ((lines : Lines) (line : List ℕ) → t.kept.items ≡ take 41 line → HasLines k d old lines t → HasLines k d old (lines ++ line ∷ []) s)
    → s.kept.items ≡ [] → HasTaken k d old bytes t → HasTaken k d old (bytes ++ 10 ∷ []) s
feed_taken k d old bytes t s ends empty taken = record {
  lines = subst (λ (c : LineCut). HasLines k d old c.whole s) (sym cut) (ends (line_cut bytes).whole (line_cut bytes).open_line taken.kept taken.lines);
  kept = empty ∙ sym (ap (λ (c : LineCut). take 41 c.open_line) cut);
}
  where
    after : List ℕ → LineCut
    after line = record { whole = (line_cut bytes).whole ++ line ∷ []; open_line = [] }

    cut : line_cut (bytes ++ 10 ∷ []) ≡ after (line_cut bytes).open_line
    cut = line_cut-append-line bytes (10 ∷ []) [] refl ∙ ap after (append-nil (line_cut bytes).open_line)

-- any other byte
pub byte_taken : (k d : ℕ) (old : Tape) (bytes : List ℕ) (x : ℕ) (t s : Tracing) → (x == 10) ≡ false → s.lines ≡ t.lines → s.readers ≡ t.readers
    → s.fault ≡ t.fault → s.kept.items ≡ take 41 (t.kept.items ++ x ∷ []) → HasTaken k d old bytes t → HasTaken k d old (bytes ++ x ∷ []) s
byte_taken k d old bytes x t s other lines readers fault kept taken = record {
  lines = subst (λ (c : LineCut). HasLines k d old c.whole s) (sym cut) stay;
  kept = kept ∙ ap (λ (l : List ℕ). take 41 (l ++ x ∷ [])) taken.kept ∙ front (line_cut bytes).open_line ∙ sym (ap (λ (c : LineCut). take 41 c.open_line) cut);
}
  where
    cut : line_cut (bytes ++ x ∷ []) ≡ record { whole = (line_cut bytes).whole; open_line = (line_cut bytes).open_line ++ x ∷ [] }
    cut = line_cut-append-open bytes (x ∷ []) (is_open-push [] x (record { is = refl }) other)

    stay : HasLines k d old (line_cut bytes).whole s
    stay = record {
      count = lines ∙ taken.lines.count;
      known = subst (λ (r : Readers). IsKnown k d old (line_cut bytes).whole r s.fault) (sym readers)
          (subst (λ (o : Option (ℕ × TraceFault)). IsKnown k d old (line_cut bytes).whole t.readers o) (sym fault) taken.lines.known);
    }

    front : (line : List ℕ) → take 41 (take 41 line ++ x ∷ []) ≡ take 41 (line ++ x ∷ [])
    front line = by (nat_lt 41 (length line)) refl
      where
        by : (b : Bool) → nat_lt 41 (length line) ≡ b → take 41 (take 41 line ++ x ∷ []) ≡ take 41 (line ++ x ∷ [])
        by true e =
            let long : length (take 41 line) ≡ 41 = length-take-le 41 line (omega (arith, below 41 (length line) e)) in
            take-append-le 41 (take 41 line) (x ∷ []) (omega (arith, long)) ∙ take_all 41 (take 41 line) (omega (arith, long))
            ∙ sym (take-append-le 41 line (x ∷ []) (omega (arith, below 41 (length line) e)))
        by false e = ap (λ (l : List ℕ). take 41 (l ++ x ∷ [])) (take_all 41 line (at_most 41 (length line) e))

-- the end of a trace within a line
pub end_within : (k d : ℕ) (old : Tape) (bytes : List ℕ) (t s : Tracing)
    → ((lines : Lines) (line : List ℕ) → t.kept.items ≡ take 41 line → HasLines k d old lines t → HasLines k d old (lines ++ line ∷ []) s)
    → 0 < length t.kept.items → HasTaken k d old bytes t → HasLines k d old (lines_of bytes) s
end_within k d old bytes t s ends some taken =
    subst (λ (l : Lines). HasLines k d old ((line_cut bytes).whole ++ l) s) (sym (last (line_cut bytes).open_line taken.kept))
    (ends (line_cut bytes).whole (line_cut bytes).open_line taken.kept taken.lines)
  where
    last : (line : List ℕ) → t.kept.items ≡ take 41 line → rest_line line ≡ line ∷ []
    last [] e = absurd (omega (arith, some, ap (λ (l : List ℕ). length l) e))
    last (x ∷ line) e = refl
