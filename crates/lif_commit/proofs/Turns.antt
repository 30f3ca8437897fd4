-- Changes in turn: the slots that they write, the records that these touch, and how many slots there are with them.
use Rattle.std.proofs.Common.{◌≡◌, ◌≢◌, ◌<◌, ◌≤◌, ◌+◌, ◌*◌, ◌++◌, ℕ, zero, suc, List, [], ◌∷◌, Bool, true, false, if◌then◌else◌, not, nat_eq, nat_lt, ◌&&◌, ◌/◌, filter, length, length-append, get_or, take, drop, inl, inr, refl, sym, ap, subst, ◌∙◌, append-nil, append_assoc, arith}
use Rattle.std.specs.Prelude.{Option, Some, None, IfSome}
use Rattle.std.specs.List.{list_all}
use Rattle.std.proofs.lemmas.Bool.{cases_lt, and_parts, ne_eqb, eqb-true, ltb-true}
use Rattle.std.proofs.Math.Nat.{max-eq_left, max-eq_right, max-le, le-max_left, le-max_right}
use Rattle.std.proofs.lemmas.List.{take_more}
use Rattle.std.proofs.Math.Seq.{drop-cons}
use Rattle.lif_model.specs.Tape.{Tape}
use Rattle.lif_model.specs.Made.{with_type}
use Rattle.lif_model.specs.declared.version.Version.{Version}
use Rattle.lif_model.specs.Redo.{most_targets, redo_start, are_targets, Changes}
use Rattle.lif_model.specs.Commit.{AreChanges}
use Rattle.lif_model.specs.Writing.{SlotWrites, slot_record, entry_from, touched}
use Rattle.lif_model.specs.Pairs.{all_pairs}
use Rattle.lif_model.proofs.Writing.{are_two, once, apart_tell}
use Rattle.lif_model.proofs.Growing.{is_among, touched_more}
use Rattle.lif_dir.specs.declared.change.Change.{Change}
use Rattle.lif_dir.specs.declared.entries.FileEntry.{FileEntry}
use Rattle.lif_dir.specs.Entries.{entry_bytes}
use Rattle.lif_dir.specs.Changes.{FitsIn, slot_after, after_next, next_write, end_write, entry_writes, change_writes, bytes_with, count_with, AreInTurn, count_with_all, all_writes}
use Rattle.lif_commit.specs.Staged.{IsStagedAs, touched_by_all, past_end, calls_of_all}
use Rattle.lif_commit.proofs.Staging.{AreWithin, within_append, writes_taken, fits_after, count_is, touched_is, past_push}

-- ---- one change more

pub turn_more : (room : ℕ) (slots mid : List (List ℕ)) (changes : List Change) (c : Change) → AreInTurn room slots changes mid → FitsIn room (length mid) c
    → AreInTurn room slots (changes ++ c ∷ []) (bytes_with c mid)
turn_more room slots mid [] c same fits = (subst (λ (xs : List (List ℕ)). FitsIn room (length xs) c) (sym same) fits, ap (bytes_with c) same)
turn_more room slots mid (d ∷ ds) c turn fits = (turn.0, turn_more room (bytes_with d slots) mid ds c turn.1 fits)

pub writes_more : (start : ℕ) (changes : List Change) (c : Change) (x : Tape) → all_writes start (changes ++ c ∷ []) x ≡ all_writes start changes x ++ change_writes start c x
writes_more start [] c x = append-nil (change_writes start c x)
writes_more start (d ∷ ds) c x = ap (λ (ws : SlotWrites). change_writes start d x ++ ws) (writes_more start ds c x)
    ∙ sym (append_assoc (change_writes start d x) (all_writes start ds x) (change_writes start c x))

pub count_more : (count : ℕ) (changes : List Change) (c : Change) → count_with_all count (changes ++ c ∷ []) ≡ count_with (count_with_all count changes) c
count_more count [] c = refl
count_more count (d ∷ ds) c = count_more (count_with count d) ds c

-- the next of them
pub next_in_turn : (room : ℕ) (mid later : List (List ℕ)) (changes : List Change) (k : ℕ) (d : Change) → k < length changes → AreInTurn room mid (drop k changes) later
    → FitsIn room (length mid) (get_or changes k d) × AreInTurn room (bytes_with (get_or changes k d) mid) (drop (suc k) changes) later
next_in_turn room mid later changes k d lt turn = subst (λ (cs : List Change). AreInTurn room mid cs later) (drop-cons changes k d lt) turn

-- the first of them, with one more
pub turn_next : (room : ℕ) (slots mid later : List (List ℕ)) (changes : List Change) (k : ℕ) (d : Change) → k < length changes → AreInTurn room slots (take k changes) mid → AreInTurn room mid (drop k changes) later
    → (next : List (List ℕ)) × (last : List (List ℕ)) × AreInTurn room slots (take (k + 1) changes) next × AreInTurn room next (drop (k + 1) changes) last
turn_next room slots mid later changes k d lt first rest =
    let two = next_in_turn room mid later changes k d lt rest in
    let one : suc k ≡ k + 1 = omega arith in (
      bytes_with (get_or changes k d) mid,
      later,
      subst (λ (cs : List Change). AreInTurn room slots cs (bytes_with (get_or changes k d) mid)) (sym (take_more changes k d lt)) (turn_more room slots mid (take k changes) (get_or changes k d) first two.0),
      subst (λ (j : ℕ). AreInTurn room (bytes_with (get_or changes k d) mid) (drop j changes) later) one two.1,
    )

pub writes_next : (start : ℕ) (changes : List Change) (k : ℕ) (d : Change) (x : Tape) → k < length changes
    → all_writes start (take k changes) x ++ change_writes start (get_or changes k d) x ≡ all_writes start (take (k + 1) changes) x
writes_next start changes k d x lt = sym (ap (λ (cs : List Change). all_writes start cs x) (take_more changes k d lt) ∙ writes_more start (take k changes) (get_or changes k d) x)

pub count_next : (count : ℕ) (changes : List Change) (k : ℕ) (d : Change) → k < length changes → count_with (count_with_all count (take k changes)) (get_or changes k d) ≡ count_with_all count (take (k + 1) changes)
count_next count changes k d lt = sym (ap (count_with_all count) (take_more changes k d lt) ∙ count_more count (take k changes) (get_or changes k d))

-- ---- how many slots there are

pub turn_count : (room : ℕ) (slots later : List (List ℕ)) (changes : List Change) → AreInTurn room slots changes later → length later ≡ count_with_all (length slots) changes
turn_count room slots later [] same = sym (ap (λ (xs : List (List ℕ)). length xs) same)
turn_count room slots later (c ∷ cs) turn =
    turn_count room (bytes_with c slots) later cs turn.1 ∙ ap (λ (k : ℕ). count_with_all k cs) (count_is entry_bytes c slots turn.0.place)

pub turn_fits : (room : ℕ) (slots later : List (List ℕ)) (changes : List Change) → length slots ≤ room → AreInTurn room slots changes later → count_with_all (length slots) changes ≤ room
turn_fits room slots later [] le same = le
turn_fits room slots later (c ∷ cs) le turn =
    let is : length (bytes_with c slots) ≡ count_with (length slots) c = count_is entry_bytes c slots turn.0.place in
    subst (λ (k : ℕ). count_with_all k cs ≤ room) is
    (turn_fits room (bytes_with c slots) later cs (omega (arith, is, max-le le (fits_after room (length slots) c turn.0))) turn.1)

pub count_grows : (count : ℕ) (changes : List Change) → count ≤ count_with_all count changes
count_grows count [] = omega arith
count_grows count (c ∷ cs) = omega (arith, count_grows (count_with count c) cs, le-max_left count (slot_after c))

-- ---- the slots that are written

change_within : (room count start : ℕ) (c : Change) (x : Tape) → FitsIn room count c → AreWithin room (change_writes start c x)
change_within room count start c x fits = (fits.within, within_append room (next_write (suc c.slot) c.next) (end_write c.ended start (slot_after c) x) (next c.next fits.next) (end c.ended fits.end_within))
  where
    next : (next : Option FileEntry) → IfSome next (λ e. (suc c.slot < room) × (e.kind ≢ 0xFFFF)) → AreWithin room (next_write (suc c.slot) next)
    next None lt = tt
    next (Some e) lt = (lt.0, tt)

    end : (ended : Bool) → (ended ≡ true → slot_after c < room) → AreWithin room (end_write ended start (slot_after c) x)
    end false lt = tt
    end true lt = (lt refl, tt)

all_within : (room start : ℕ) (slots later : List (List ℕ)) (changes : List Change) (x : Tape) → AreInTurn room slots changes later → AreWithin room (all_writes start changes x)
all_within room start slots later [] x turn = tt
all_within room start slots later (c ∷ cs) x turn =
    within_append room (change_writes start c x) (all_writes start cs x) (change_within room (length slots) start c x turn.0) (all_within room start (bytes_with c slots) later cs x turn.1)

all_some : (start : ℕ) (changes : List Change) (x : Tape) → 0 < length changes → 0 < length (all_writes start changes x)
all_some start [] x some = absurd (omega (arith, some))
all_some start (c ∷ cs) x some = omega (arith, length-append (change_writes start c x) (all_writes start cs x))

-- ---- the records that they touch

-- those of them that are past the end; with another write there are no fewer
past_one : (start count : ℕ) (ws : SlotWrites) (w : ℕ × List ℕ) → past_end start count (touched start ws) ≤ past_end start count (touched start (ws ++ w ∷ []))
past_one start count ws w = go (is_among (touched start ws) (slot_record start w.0)) (touched_more start ws w)
  where
    go : (b : Bool) → touched start (ws ++ w ∷ []) ≡ touched start ws ++ (if b then [] else slot_record start w.0 ∷ []) → past_end start count (touched start ws) ≤ past_end start count (touched start (ws ++ w ∷ []))
    go true is = omega (arith, ap (past_end start count) (is ∙ append-nil (touched start ws)))
    go false is = omega (arith, ap (past_end start count) is, past_push start count (touched start ws) (slot_record start w.0))

past_grows : (start count : ℕ) (ws more : SlotWrites) → past_end start count (touched start ws) ≤ past_end start count (touched start (ws ++ more))
past_grows start count ws [] = omega (arith, ap (λ (vs : SlotWrites). past_end start count (touched start vs)) (append-nil ws))
past_grows start count ws (w ∷ more) =
    omega (arith, past_one start count ws w, past_grows start count (ws ++ w ∷ []) more, ap (λ (vs : SlotWrites). past_end start count (touched start vs)) (append_assoc ws (w ∷ []) more))

all_parts : (start k : ℕ) (changes : List Change) (x : Tape) → all_writes start changes x ≡ all_writes start (take k changes) x ++ all_writes start (drop k changes) x
all_parts start zero changes x = refl
all_parts start (suc k) [] x = refl
all_parts start (suc k) (c ∷ cs) x = ap (λ (ws : SlotWrites). change_writes start c x ++ ws) (all_parts start k cs x)
    ∙ sym (append_assoc (change_writes start c x) (all_writes start (take k cs) x) (all_writes start (drop k cs) x))

-- the first of them no more than all
pub first_past : (start count k : ℕ) (changes : List Change) → past_end start count (touched_by_all start (take k changes)) ≤ past_end start count (touched_by_all start changes)
first_past start count k changes =
    omega (arith, past_grows start count (all_writes start (take k changes) []) (all_writes start (drop k changes) []), ap (λ (ws : SlotWrites). past_end start count (touched start ws)) (all_parts start k changes []))

-- ---- one commit takes them

pub turn_takes : (version : Version) (n start size : ℕ) (slots later : List (List ℕ)) (changes : List Change) (tape : Option Tape) (cs : Changes) → start + size ≤ redo_start version n
    → AreInTurn (8 * size) slots changes later → 0 < length changes → length (touched_by_all start changes) ≤ most_targets version → IsStagedAs start tape (all_writes start changes) cs
    → AreChanges version n cs × (length cs ≡ length (touched_by_all start changes))
turn_takes version n start size slots later changes tape cs below turn some few staged =
    let is = touched_is start tape (all_writes start changes) cs staged in
    (ap (are_targets version n) is.0 ∙ writes_taken version n start size (all_writes start changes []) below (all_within (8 * size) start slots later changes [] turn) (all_some start changes [] some) few, is.1)

-- ---- the end

-- where there are more slots than before, and one after them, an end was put there
pub end_is_put : (room start : ℕ) (slots later : List (List ℕ)) (changes : List Change) (x : Tape) → AreInTurn room slots changes later
    → length slots < count_with_all (length slots) changes → count_with_all (length slots) changes < room
    → (before more : SlotWrites) × (bytes : List ℕ) × (all_writes start changes x ≡ before ++ (count_with_all (length slots) changes, bytes) ∷ more)
end_is_put room start slots later [] x turn grown short = absurd (omega (arith, grown))
end_is_put room start slots later (c ∷ cs) x turn grown short = elim (cases_lt one (count_with_all one cs)) [
  | inl later_grown ↦
      let rest = end_is_put room start (bytes_with c slots) later cs x turn.1 (subst (λ (k : ℕ). k < count_with_all k cs) (sym is) later_grown) (subst (λ (k : ℕ). count_with_all k cs < room) (sym is) short) in (
        change_writes start c x ++ rest.0,
        rest.1,
        rest.2,
        ap (λ (ws : SlotWrites). change_writes start c x ++ ws) rest.3
            ∙ sym (append_assoc (change_writes start c x) rest.0 ((count_with_all (length (bytes_with c slots)) cs, rest.2) ∷ rest.1))
            ∙ ap (λ (k : ℕ). (change_writes start c x ++ rest.0) ++ (count_with_all k cs, rest.2) ∷ rest.1) is,
      )
  | inr no_more ↦ here (omega (arith, no_more, count_grows one cs))
]
  where
    one : ℕ
    one = count_with (length slots) c

    is : length (bytes_with c slots) ≡ one
    is = count_is entry_bytes c slots turn.0.place

    here : count_with_all one cs ≡ one
        → (before more : SlotWrites) × (bytes : List ℕ) × (change_writes start c x ++ all_writes start cs x ≡ before ++ (count_with_all one cs, bytes) ∷ more)
    here all =
        let more : length slots < slot_after c = elim (cases_lt (length slots) (slot_after c)) [
          | inl lt ↦ lt
          | inr ge ↦ absurd (omega (arith, grown, all, max-eq_left {n = length slots} {m = slot_after c} ge))
        ] in
        let at : one ≡ slot_after c = max-eq_right {n = length slots} {m = slot_after c} (omega (arith, more)) in
        let on : c.ended ≡ true = turn.0.end_there more (omega (arith, short, all, at)) in
        let bytes : List ℕ = with_type 0xFFFF (entry_from x start (slot_after c)) in
        let ends : change_writes start c x ≡ entry_writes c ++ (slot_after c, bytes) ∷ [] = ap (λ (b : Bool). entry_writes c ++ end_write b start (slot_after c) x) on in (
          entry_writes c,
          all_writes start cs x,
          bytes,
          ap (λ (ws : SlotWrites). ws ++ all_writes start cs x) ends ∙ append_assoc (entry_writes c) ((slot_after c, bytes) ∷ []) (all_writes start cs x)
              ∙ ap (λ (k : ℕ). entry_writes c ++ (k, bytes) ∷ all_writes start cs x) (sym (all ∙ at)),
        )

-- ---- how many records are touched

-- those of them that are picked are numbers from low on and below high
abbrev pub AreBetween : (ℕ → Bool) → ℕ → ℕ → List ℕ → Type 0
AreBetween pick low high [] = Unit {0}
AreBetween pick low high (k ∷ ks) = (pick k ≡ true → (low ≤ k) × (k < high)) × AreBetween pick low high ks

between_filter : (pick test : ℕ → Bool) (low high : ℕ) (ks : List ℕ) → AreBetween pick low high ks → AreBetween pick low high (filter test ks)
between_filter pick test low high [] are = tt
between_filter pick test low high (k ∷ ks) are = go (test k) (between_filter pick test low high ks are.1)
  where
    go : (b : Bool) → AreBetween pick low high (filter test ks) → AreBetween pick low high (if b then k ∷ filter test ks else filter test ks)
    go true rest = (are.0, rest)
    go false rest = rest

-- r is not picked
abbrev but : (ℕ → Bool) → ℕ → ℕ → Bool
but pick r k = pick k && not (nat_eq k r)

-- without the greatest
between_less : (pick : ℕ → Bool) (low high : ℕ) (ks : List ℕ) → AreBetween pick low (suc high) ks → AreBetween (but pick high) low high ks
between_less pick low high [] are = tt
between_less pick low high (k ∷ ks) are = (here, between_less pick low high ks are.1)
  where
    here : but pick high k ≡ true → (low ≤ k) × (k < high)
    here on =
        let both = and_parts (pick k) (not (nat_eq k high)) on in
        let at = are.0 both.0 in
        (at.0, omega (arith, at.1, apart_tell k high both.1))

-- of numbers each of which comes once, one alone is not picked
all_picked : (pick : ℕ → Bool) (r : ℕ) (ks : List ℕ) → list_all (are_two r) ks ≡ true → length (filter (but pick r) ks) ≡ length (filter pick ks)
all_picked pick r [] all = refl
all_picked pick r (k ∷ ks) all =
    let both = and_parts (are_two r k) (list_all (are_two r) ks) all in
    let other : nat_eq k r ≡ false = ne_eqb k r (λ e. apart_tell r k both.0 (sym e)) in
    go (pick k) (nat_eq k r) other (all_picked pick r ks both.1)
  where
    go : (b c : Bool) → c ≡ false → length (filter (but pick r) ks) ≡ length (filter pick ks)
        → length (if b && not c then k ∷ filter (but pick r) ks else filter (but pick r) ks) ≡ length (if b then k ∷ filter pick ks else filter pick ks)
    go true c other rest = (λ i. length (if not (other i) then k ∷ filter (but pick r) ks else filter (but pick r) ks)) ∙ ap suc rest
    go false c other rest = rest

one_taken : (pick : ℕ → Bool) (r : ℕ) (ks : List ℕ) → all_pairs are_two ks ≡ true → length (filter pick ks) ≤ suc (length (filter (but pick r) ks))
one_taken pick r [] two = omega arith
one_taken pick r (k ∷ ks) two =
    let both = and_parts (list_all (are_two k) ks) (all_pairs are_two ks) two in
    go (pick k) (nat_eq k r) refl both.0 (one_taken pick r ks both.1)
  where
    go : (b c : Bool) → nat_eq k r ≡ c → list_all (are_two k) ks ≡ true → length (filter pick ks) ≤ suc (length (filter (but pick r) ks))
        → length (if b then k ∷ filter pick ks else filter pick ks) ≤ suc (length (if b && not c then k ∷ filter (but pick r) ks else filter (but pick r) ks))
    go true true e others rest = omega (arith, all_picked pick r ks (subst (λ (j : ℕ). list_all (are_two j) ks ≡ true) (eqb-true k r e) others))
    go true false e others rest = omega (arith, rest)
    go false c e others rest = rest

none_between : (pick : ℕ → Bool) (low : ℕ) (ks : List ℕ) → AreBetween pick low low ks → length (filter pick ks) ≡ 0
none_between pick low [] are = refl
none_between pick low (k ∷ ks) are = go (pick k) are.0 (none_between pick low ks are.1)
  where
    go : (b : Bool) → (b ≡ true → (low ≤ k) × (k < low)) → length (filter pick ks) ≡ 0 → length (if b then k ∷ filter pick ks else filter pick ks) ≡ 0
    go true at rest = let here = at refl in absurd (omega (arith, here.0, here.1))
    go false at rest = rest

few_between : (wide low : ℕ) (pick : ℕ → Bool) (ks : List ℕ) → AreBetween pick low (low + wide) ks → all_pairs are_two ks ≡ true → length (filter pick ks) ≤ wide
few_between zero low pick ks are two = omega (arith, none_between pick low ks (subst (λ (h : ℕ). AreBetween pick low h ks) (omega arith) are))
few_between (suc wide) low pick ks are two =
    let high : ℕ = low + wide in
    omega (
      arith,
      few_between wide low (but pick high) ks (between_less pick low high ks (subst (λ (h : ℕ). AreBetween pick low h ks) (omega arith) are)) two,
      one_taken pick high ks two,
    )

-- any number is picked
abbrev any : ℕ → Bool
any k = true

all_any : (ks : List ℕ) → length (filter any ks) ≡ length ks
all_any [] = refl
all_any (k ∷ ks) = ap suc (all_any ks)

-- the records of the first so many slots
slots_between : (start room : ℕ) (ws : SlotWrites) → AreWithin room ws → AreBetween any start (start + (room + 7) / 8) (touched start ws)
slots_between start room [] are = tt
slots_between start room (w ∷ ws) are =
    ((λ on. (omega arith, omega (arith, are.0))), between_filter any (λ k. not (nat_eq k (slot_record start w.0))) start (start + (room + 7) / 8) (touched start ws) (slots_between start room ws are.1))

-- and those past one of them
past_between : (start high limit more : ℕ) (ks : List ℕ) → high ≤ more → AreBetween any start high ks → AreBetween (λ k. nat_lt limit k) (suc limit) more ks
past_between start high limit more [] le are = tt
past_between start high limit more (k ∷ ks) le are = ((λ past. (omega (arith, ltb-true limit k past), omega (arith, le, (are.0 refl).1))), past_between start high limit more ks le are.1)

-- a change writes no slot after the one after its last
change_before : (room count start : ℕ) (c : Change) (x : Tape) → FitsIn room count c → AreWithin (suc (count_with count c)) (change_writes start c x)
change_before room count start c x fits =
    (omega (arith, own c.next), within_append (suc (count_with count c)) (next_write (suc c.slot) c.next) (end_write c.ended start (slot_after c) x) (next c.next refl) (end c.ended))
  where
    most : slot_after c ≤ count_with count c
    most = le-max_right count (slot_after c)

    own : (next : Option FileEntry) → suc c.slot ≤ after_next c.slot next
    own None = omega arith
    own (Some e) = omega arith

    next : (next : Option FileEntry) → c.next ≡ next → AreWithin (suc (count_with count c)) (next_write (suc c.slot) next)
    next None is = tt
    next (Some e) is = (omega (arith, most, ap (after_next c.slot) is), tt)

    end : (ended : Bool) → AreWithin (suc (count_with count c)) (end_write ended start (slot_after c) x)
    end false = tt
    end true = (omega (arith, most), tt)

within_more : (room more : ℕ) (ws : SlotWrites) → room ≤ more → AreWithin room ws → AreWithin more ws
within_more room more [] le are = tt
within_more room more (w ∷ ws) le are = (omega (arith, le, are.0), within_more room more ws le are.1)

all_before : (room start : ℕ) (slots later : List (List ℕ)) (changes : List Change) (x : Tape) → AreInTurn room slots changes later → AreWithin (suc (count_with_all (length slots) changes)) (all_writes start changes x)
all_before room start slots later [] x turn = tt
all_before room start slots later (c ∷ cs) x turn =
    let is : length (bytes_with c slots) ≡ count_with (length slots) c = count_is entry_bytes c slots turn.0.place in
    let last : ℕ = count_with_all (count_with (length slots) c) cs in
    within_append (suc last) (change_writes start c x) (all_writes start cs x)
    (within_more (suc (count_with (length slots) c)) (suc last) (change_writes start c x) (omega (arith, count_grows (count_with (length slots) c) cs)) (change_before room (length slots) start c x turn.0))
    (subst (λ (k : ℕ). AreWithin (suc (count_with_all k cs)) (all_writes start cs x)) is (all_before room start (bytes_with c slots) later cs x turn.1))

-- each adds one slot at most
turn_adds : (room : ℕ) (slots later : List (List ℕ)) (changes : List Change) → AreInTurn room slots changes later → count_with_all (length slots) changes ≤ length slots + length changes
turn_adds room slots later [] turn = omega arith
turn_adds room slots later (c ∷ cs) turn =
    let is : length (bytes_with c slots) ≡ count_with (length slots) c = count_is entry_bytes c slots turn.0.place in
    let one : count_with (length slots) c ≤ suc (length slots) = max-le (omega arith) turn.0.one in
    omega (arith, one, is, subst (λ (k : ℕ). count_with_all k cs ≤ k + length cs) is (turn_adds room (bytes_with c slots) later cs turn.1))

module _ (start size : ℕ) (slots later : List (List ℕ)) (changes : List Change) (turn : AreInTurn (8 * size) slots changes later) where
  -- past the record with the end of so few changes there are four at most
  pub turn_reads : length changes ≤ 31 → past_end start (length slots) (touched_by_all start changes) ≤ 4
  turn_reads few =
      let count : ℕ = count_with_all (length slots) changes in
      let limit : ℕ = start + length slots / 8 in
      let high : ℕ = start + (suc count + 7) / 8 in
      few_between 4 (suc limit) (λ k. nat_lt limit k) (touched_by_all start changes)
      (past_between start high limit (suc limit + 4) (touched_by_all start changes) (omega (arith, turn_adds (8 * size) slots later changes turn, few))
      (slots_between start (suc count) (all_writes start changes []) (all_before (8 * size) start slots later changes [] turn)))
      (once start (all_writes start changes []))

  -- so a commit of them reads and writes no more
  pub turn_calls : (is_open : Bool) → length changes ≤ 31 → calls_of_all start (length slots) is_open changes ≤ 2 * length (touched_by_all start changes) + 8
  turn_calls is_open few = by is_open (turn_reads few)
    where
      by : (b : Bool) → past_end start (length slots) (touched_by_all start changes) ≤ 4 → calls_of_all start (length slots) b changes ≤ 2 * length (touched_by_all start changes) + 8
      by true reads = omega (arith, reads)
      by false reads = omega (arith, reads)
