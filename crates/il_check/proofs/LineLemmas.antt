-- Lines of a trace, and of those that follow: a fault of a line is one by the lines up to it.
use Rattle.std.proofs.Common.{◌≡◌, ◌⊎◌, ◌∙◌, ◌<◌, ◌≤◌, ◌+◌, inl, inr, ℕ, Bool, true, false, nat_lt, List, [], ◌∷◌, ◌++◌, length, filter, refl, sym, ap, ap₂, subst, arith, append_assoc, append-nil, length-append}
use Rattle.std.proofs.lemmas.Bool.Decides.{nat_tests}
use Rattle.std.proofs.lemmas.List.{map-append}
use Rattle.std.proofs.lemmas.List.Elements.{All-append, All-cons, All-nil, filter-append}
use Rattle.std.specs.Prelude.{get_or, drop}
use Rattle.il_frames.specs.declared.entry.Entry.{Entry}
use Rattle.il_frames.specs.Entries.{IsEntry, entry_text}
use Rattle.loop_model.specs.Loops.{host_loop}
use Rattle.loop_model.specs.Roles.{all_without_roles, has_one_talker}
use Rattle.trace_readers.specs.declared.expected.UnitFault.{UnitFault}
use Rattle.trace_readers.specs.declared.expected.UnitFault.TheVariants as unit
use Rattle.trace_readers.specs.Exchanges.{IsPrefix}
use Rattle.il_check.specs.declared.verdict.TraceFault.{TraceFault}
use Rattle.il_check.specs.declared.verdict.TraceFault.TheVariants as fault
use Rattle.il_check.specs.Verdicts.{is_entry_line, AreEntries, IsLineAt, Comes, HasUnitFault, HasLineFault, IsFirstFault, rank_of}
use Rattle.il_check.specs.Tracing.{IsTextWith, EndsFaulty, HasFaultAfter}
use Rattle.il_check.proofs.VerdictLaws.{same_log}

abbrev Lines : Type 0
Lines = List (List ℕ)

head_of : Lines → List ℕ
head_of lines = get_or lines 0 []

-- ---- places of lines

pub at_most : (a b : ℕ) → nat_lt a b ≡ false → b ≤ a
at_most a b e = grind (arith, nat_tests)

pub below : (a b : ℕ) → nat_lt a b ≡ true → a < b
below a b e = grind (arith, nat_tests)

-- what stands before a line among the first ones
split_within : (lines more front rest : Lines) (line : List ℕ) → lines ++ more ≡ front ++ line ∷ rest → length front < length lines
    → (left : Lines) × (lines ≡ front ++ line ∷ left)
split_within [] more front rest line e less = absurd (omega (arith, less))
split_within (y ∷ lines) more [] rest line e less = (lines, ap (λ (z : List ℕ). z ∷ lines) (ap (λ (l : Lines). get_or l 0 []) e))
split_within (y ∷ lines) more (z ∷ front) rest line e less =
    let found = split_within lines more front rest line (ap (drop 1) e) (omega (arith, less)) in
    (found.0, ap₂ (λ (x : List ℕ) (xs : Lines). x ∷ xs) (ap (λ (l : Lines). get_or l 0 []) e) found.1)

-- what stands before the last line
split_last : (lines front rest : Lines) (last line : List ℕ) → lines ++ last ∷ [] ≡ front ++ line ∷ rest → length front ≡ length lines
    → (front ≡ lines) × (line ≡ last)
split_last [] [] rest last line e same = (refl, sym (ap (λ (l : Lines). get_or l 0 []) e))
split_last [] (z ∷ front) rest last line e same = absurd (omega (arith, same))
split_last (y ∷ lines) [] rest last line e same = absurd (omega (arith, same))
split_last (y ∷ lines) (z ∷ front) rest last line e same =
    let found = split_last lines front rest last line (ap (drop 1) e) (omega (arith, same)) in
    (ap₂ (λ (x : List ℕ) (xs : Lines). x ∷ xs) (sym (ap (λ (l : Lines). get_or l 0 []) e)) found.0, found.1)

line_before : (lines more : Lines) (x : ℕ) (front : Lines) (line : List ℕ) → IsLineAt (lines ++ more) x front line → x ≤ length lines → IsLineAt lines x front line
line_before lines more x front line is le =
    let found = split_within lines more front is.rest line is.are (omega (arith, is.place, le)) in
    record { rest = found.0; are = found.1; place = is.place; marked = is.marked }

line_after : (lines more : Lines) (x : ℕ) (front : Lines) (line : List ℕ) → IsLineAt lines x front line → IsLineAt (lines ++ more) x front line
line_after lines more x front line is = record {
  rest = is.rest ++ more;
  are = ap (λ (l : Lines). l ++ more) is.are ∙ append_assoc front (line ∷ is.rest) more;
  place = is.place;
  marked = is.marked;
}

line_last : (lines : Lines) (last : List ℕ) (front : Lines) (line : List ℕ) → IsLineAt (lines ++ last ∷ []) (length lines + 1) front line
    → (front ≡ lines) × (line ≡ last)
line_last lines last front line is = split_last lines front is.rest last line is.are (omega (arith, is.place))

comes_before : (lines more : Lines) (x : ℕ) (log : List Entry) (e : Entry) → Comes (lines ++ more) x log e → x ≤ length lines → Comes lines x log e
comes_before lines more x log e is le = record {
  front = is.front;
  stands = line_before lines more x is.front (entry_text e) is.stands le;
  log_is = is.log_is;
  entry = is.entry;
}

comes_after : (lines more : Lines) (x : ℕ) (log : List Entry) (e : Entry) → Comes lines x log e → Comes (lines ++ more) x log e
comes_after lines more x log e is = record {
  front = is.front;
  stands = line_after lines more x is.front (entry_text e) is.stands;
  log_is = is.log_is;
  entry = is.entry;
}

-- ---- entries of lines

pub more_entries : (lines : Lines) (line : List ℕ) (log : List Entry) (e : Entry) → AreEntries lines log → IsEntry e → entry_text e ≡ line
    → is_entry_line line ≡ true → AreEntries (lines ++ line ∷ []) (log ++ e ∷ [])
more_entries lines line log e are is same marked = record {
  entries = All-append IsEntry log (e ∷ []) are.entries (All-cons IsEntry e [] is (All-nil IsEntry));
  texts = map-append entry_text log (e ∷ []) ∙ ap₂ (λ (a b : Lines). a ++ b) are.texts (ap (λ (t : List ℕ). t ∷ []) same ∙ sym kept) ∙ sym (filter-append is_entry_line lines (line ∷ []));
}
  where
    kept : filter is_entry_line (line ∷ []) ≡ line ∷ []
    kept = rw marked refl

pub same_entries : (lines : Lines) (line : List ℕ) (log : List Entry) → AreEntries lines log → is_entry_line line ≡ false
    → AreEntries (lines ++ line ∷ []) log
same_entries lines line log are unmarked = record {
  entries = are.entries;
  texts = are.texts ∙ sym (append-nil (filter is_entry_line lines)) ∙ ap (λ (l : Lines). filter is_entry_line lines ++ l) (sym skipped) ∙ sym (filter-append is_entry_line lines (line ∷ []));
}
  where
    skipped : filter is_entry_line (line ∷ []) ≡ []
    skipped = rw unmarked refl

-- ---- faults

-- a fault of one of the first lines is one by these
pub fault_before : (k d size : ℕ) (lines more : Lines) (x : ℕ) (f : TraceFault) → HasLineFault k d size (lines ++ more) x f → x ≤ length lines
    → HasLineFault k d size lines x f
fault_before k d size lines more x fault.BadText has le = (has.0, has.1, line_before lines more x has.0 has.1 has.2 le, has.3)
fault_before k d size lines more x fault.NotTalker has le = (has.0, has.1, comes_before lines more x has.0 has.1 has.2 le, has.3, has.4)
fault_before k d size lines more x fault.NoExchange (inl has) le = inl (has.0, has.1, comes_before lines more x has.0 has.1 has.2 le, has.3)
fault_before k d size lines more x fault.NoExchange (inr has) le = absurd (omega (arith, has.0, le, length-append lines more))
fault_before k d size lines more x fault.BadUnit has le = (has.0, has.1, comes_before lines more x has.0 has.1 has.2 le, has.3, has.4, has.5)
fault_before k d size lines more x fault.Unclear has le = (has.0, has.1, comes_before lines more x has.0 has.1 has.2 le, has.3, has.4, has.5)
fault_before k d size lines more x fault.SizeDiffers has le = has
fault_before k d size lines more x fault.NoEffect has le = has

-- and stays one, whatever lines follow
pub fault_after : (k d size : ℕ) (lines more : Lines) (x : ℕ) (f : TraceFault) → HasLineFault k d size lines x f → x ≤ length lines
    → HasLineFault k d size (lines ++ more) x f
fault_after k d size lines more x fault.BadText has le = (has.0, has.1, line_after lines more x has.0 has.1 has.2, has.3)
fault_after k d size lines more x fault.NotTalker has le = (has.0, has.1, comes_after lines more x has.0 has.1 has.2, has.3, has.4)
fault_after k d size lines more x fault.NoExchange (inl has) le = inl (has.0, has.1, comes_after lines more x has.0 has.1 has.2, has.3)
fault_after k d size lines more x fault.NoExchange (inr has) le = absurd (omega (arith, has.0, le))
fault_after k d size lines more x fault.BadUnit has le = (has.0, has.1, comes_after lines more x has.0 has.1 has.2, has.3, has.4, has.5)
fault_after k d size lines more x fault.Unclear has le = (has.0, has.1, comes_after lines more x has.0 has.1 has.2, has.3, has.4, has.5)
fault_after k d size lines more x fault.SizeDiffers has le = has
fault_after k d size lines more x fault.NoEffect has le = has

-- so the first fault stays the first one
pub first_after : (k d size : ℕ) (lines more : Lines) (x : ℕ) (f : TraceFault) → IsFirstFault k d size lines x f → x ≤ length lines
    → IsFirstFault k d size (lines ++ more) x f
first_after k d size lines more x f is le = record {
  has = fault_after k d size lines more x f is.has le;
  first = λ y g has. by y g has (nat_lt (length lines) y) refl;
}
  where
    by : (y : ℕ) (g : TraceFault) → HasLineFault k d size (lines ++ more) y g → (b : Bool) → nat_lt (length lines) y ≡ b
        → (x < y) ⊎ ((x ≡ y) × (rank_of f ≤ rank_of g))
    by y g has true e = inl (omega (arith, le, below (length lines) y e))
    by y g has false e = is.first y g (fault_before k d size lines more y g has (at_most (length lines) y e))

-- ---- the fault of the last line

-- an entry that comes last is that of the last line, after those of the others
last_comes : (lines : Lines) (line : List ℕ) (log found : List Entry) (e : Entry) → AreEntries lines log
    → Comes (lines ++ line ∷ []) (length lines + 1) found e → (found ≡ log) × (entry_text e ≡ line)
last_comes lines line log found e are comes =
    let at = line_last lines line comes.front (entry_text e) comes.stands in
    (same_log lines found log (subst (λ (l : Lines). AreEntries l found) at.0 comes.log_is) are, at.1)

made_comes : (lines : Lines) (line : List ℕ) (log : List Entry) (e : Entry) → AreEntries lines log → IsEntry e → entry_text e ≡ line
    → is_entry_line line ≡ true → Comes (lines ++ line ∷ []) (length lines + 1) log e
made_comes lines line log e are is same marked = record {
  front = lines;
  stands = record { rest = []; are = ap (λ (l : List ℕ). lines ++ l ∷ []) (sym same); place = refl; marked = ap is_entry_line same ∙ marked };
  log_is = are;
  entry = is;
}

unit_last : (k d size : ℕ) (lines : Lines) (line : List ℕ) (log : List Entry) (f : UnitFault) → AreEntries lines log
    → HasUnitFault k d size f (lines ++ line ∷ []) (length lines + 1) → IsTextWith line (EndsFaulty k d size log f)
unit_last k d size lines line log f are has =
    let at = last_comes lines line log has.0 has.1 are has.2 in
    (has.1, has.2.entry, at.1, subst (λ (l : List Entry). EndsFaulty k d size l f has.1) at.0 (has.3, has.4, has.5))

pub fault_last : (k d size : ℕ) (lines : Lines) (line : List ℕ) (log : List Entry) (f : TraceFault) → AreEntries lines log
    → HasLineFault k d size (lines ++ line ∷ []) (length lines + 1) f → HasFaultAfter k d size log line f
fault_last k d size lines line log fault.BadText are has =
    let at = line_last lines line has.0 has.1 has.2 in
    λ e is same. has.3 e is (same ∙ sym at.1)
fault_last k d size lines line log fault.NotTalker are has =
    let at = last_comes lines line log has.0 has.1 are has.2 in
    (has.1, has.2.entry, at.1, subst (λ (l : List Entry). has_one_talker (all_without_roles k) (l ++ has.1 ∷ []) ≡ false) at.0 has.4)
fault_last k d size lines line log fault.NoExchange are (inl has) =
    let at = last_comes lines line log has.0 has.1 are has.2 in
    (has.1, has.2.entry, at.1, subst (λ (l : List Entry). IsPrefix (host_loop k d) (l ++ has.1 ∷ []) → ⊥) at.0 has.3)
fault_last k d size lines line log fault.NoExchange are (inr has) = absurd (omega (arith, has.0, length-append lines (line ∷ [])))
fault_last k d size lines line log fault.BadUnit are has = unit_last k d size lines line log unit.BadUnit are has
fault_last k d size lines line log fault.Unclear are has = unit_last k d size lines line log unit.Unclear are has
fault_last k d size lines line log fault.SizeDiffers are has = has
fault_last k d size lines line log fault.NoEffect are has = has

unit_made : (k d size : ℕ) (lines : Lines) (line : List ℕ) (log : List Entry) (f : UnitFault) → AreEntries lines log → is_entry_line line ≡ true
    → IsTextWith line (EndsFaulty k d size log f) → HasUnitFault k d size f (lines ++ line ∷ []) (length lines + 1)
unit_made k d size lines line log f are marked has =
    (log, has.0, made_comes lines line log has.0 are has.1 has.2 marked, has.3.0, has.3.1, has.3.2)

pub fault_made : (k d size : ℕ) (lines : Lines) (line : List ℕ) (log : List Entry) (f : TraceFault) → AreEntries lines log → is_entry_line line ≡ true
    → has_one_talker (all_without_roles k) log ≡ true → HasFaultAfter k d size log line f
    → HasLineFault k d size (lines ++ line ∷ []) (length lines + 1) f
fault_made k d size lines line log fault.BadText are marked one has =
    (lines, line, record { rest = []; are = refl; place = refl; marked = marked }, has)
fault_made k d size lines line log fault.NotTalker are marked one has =
    (log, has.0, made_comes lines line log has.0 are has.1 has.2 marked, one, has.3)
fault_made k d size lines line log fault.NoExchange are marked one has =
    inl (log, has.0, made_comes lines line log has.0 are has.1 has.2 marked, has.3)
fault_made k d size lines line log fault.BadUnit are marked one has = unit_made k d size lines line log unit.BadUnit are marked has
fault_made k d size lines line log fault.Unclear are marked one has = unit_made k d size lines line log unit.Unclear are marked has
fault_made k d size lines line log fault.SizeDiffers are marked one has = has
fault_made k d size lines line log fault.NoEffect are marked one has = has

-- a line that is skipped has none
not_last : (lines : Lines) (line : List ℕ) (front : Lines) (found : List ℕ) → is_entry_line line ≡ false
    → IsLineAt (lines ++ line ∷ []) (length lines + 1) front found → ⊥
not_last lines line front found unmarked at =
    let bad : true ≡ false = sym at.marked ∙ ap is_entry_line (line_last lines line front found at).1 ∙ unmarked in cc

pub none_skipped : (k d size : ℕ) (lines : Lines) (line : List ℕ) (f : TraceFault) → is_entry_line line ≡ false
    → HasLineFault k d size (lines ++ line ∷ []) (length lines + 1) f → ⊥
none_skipped k d size lines line fault.BadText unmarked has = not_last lines line has.0 has.1 unmarked has.2
none_skipped k d size lines line fault.NotTalker unmarked has = not_last lines line has.2.front (entry_text has.1) unmarked has.2.stands
none_skipped k d size lines line fault.NoExchange unmarked (inl has) = not_last lines line has.2.front (entry_text has.1) unmarked has.2.stands
none_skipped k d size lines line fault.NoExchange unmarked (inr has) = absurd (omega (arith, has.0, length-append lines (line ∷ [])))
none_skipped k d size lines line fault.BadUnit unmarked has = not_last lines line has.2.front (entry_text has.1) unmarked has.2.stands
none_skipped k d size lines line fault.Unclear unmarked has = not_last lines line has.2.front (entry_text has.1) unmarked has.2.stands
none_skipped k d size lines line fault.SizeDiffers unmarked has = has
none_skipped k d size lines line fault.NoEffect unmarked has = has
