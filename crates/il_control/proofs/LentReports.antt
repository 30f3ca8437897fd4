-- What more entries show of the statuses of a device, as a second controller polls.
use Rattle.std.proofs.Common.{◌≡◌, ◌≢◌, ◌∙◌, ◌++◌, ◌==◌, ◌&&◌, inl, inr, ℕ, Bool, true, false, List, [], ◌∷◌, refl, sym, ap, ap₂, append_assoc, append-nil, not}
use Rattle.std.specs.Prelude.{if◌then◌else◌}
use Rattle.std.specs.List.{list_all}
use Rattle.std.proofs.lemmas.Bool.{and_parts, eq-eqb, ne_eqb, not-true}
use Rattle.std.proofs.lemmas.List.Elements.{All-append, All-cons, All-nil}
use Rattle.il_frames.specs.declared.entry.Entry.{Entry}
use Rattle.il_frames.specs.declared.entry.Outcome.TheVariants as outcome
use Rattle.il_frames.specs.declared.frame.Frame.{Frame}
use Rattle.il_frames.specs.declared.frame.Class.{Class}
use Rattle.il_frames.specs.declared.frame.Class.TheVariants as class
use Rattle.il_frames.specs.Frames.{byte_of, class_of, is_data, is_data_class, same_class}
use Rattle.il_frames.specs.NamedFrames.{entry, is_frame}
use Rattle.il_poll.specs.Service.{status_byte_of}
use Rattle.il_device.specs.Takes.{eto}
use Rattle.il_drive.specs.declared.mode.Start.TheVariants as start
use Rattle.il_drive.proofs.Mild.{StatusLeft}
use Rattle.il_ring.specs.Statuses.{is_ended, is_taken_by, reported_by, ReportsStatus}

-- ---- entries

none_and : (a b : Bool) → (a && (b && false)) ≡ false
none_and true true = refl
none_and true false = refl
none_and false b = refl

no_end : (a b : Bool) → (a && (false && b)) ≡ false
no_end true b = refl
no_end false b = refl

chosen : (c : Bool) (b : ℕ) (xs ys : List ℕ) → (if c then b ∷ (xs ++ ys) else (xs ++ ys)) ≡ (if c then b ∷ xs else xs) ++ ys
chosen true b xs ys = refl
chosen false b xs ys = refl

module _ (k q : ℕ) where
  abbrev counted : Entry → Bool → Bool
  counted x ended = (x.source == q) && (is_data x.frame && ended)

  abbrev adds : Entry → Bool → List ℕ → List ℕ
  adds x ended rest = if counted x ended then byte_of x.frame ∷ rest else rest

  -- whether ETO follows is not shown by what comes later
  ended_before : (x : Entry) (xs more : List Entry) (e : Entry) → is_frame e.frame eto ≡ false → is_ended k x (xs ++ e ∷ more) ≡ is_ended k x xs
  ended_before x [] more e other = ap (λ b. (e.source == x.source) && (b && is_taken_by k e.outcome)) other ∙ no_end (e.source == x.source) (is_taken_by k e.outcome)
  ended_before x (y ∷ xs) more e other = refl

  alone : (e : Entry) → reported_by k q (e ∷ []) ≡ []
  alone e = ap (λ c. if c then byte_of e.frame ∷ [] else []) (none_and (e.source == q) (is_data e.frame))

  -- an entry that is no ETO reports nothing yet
  pub told_one : (xs : List Entry) (e : Entry) → is_frame e.frame eto ≡ false → reported_by k q (xs ++ e ∷ []) ≡ reported_by k q xs
  told_one [] e other = alone e
  told_one (x ∷ xs) e other = ap₂ (adds x) (ended_before x xs [] e other) (told_one xs e other)

  -- nor do more of them
  pub told_none : (xs es : List Entry) → list_all (λ e. not (is_frame e.frame eto)) es ≡ true → reported_by k q (xs ++ es) ≡ reported_by k q xs
  told_none xs [] none = ap (reported_by k q) (append-nil xs)
  told_none xs (e ∷ es) none =
      let both = and_parts (not (is_frame e.frame eto)) (list_all (λ e. not (is_frame e.frame eto)) es) none in
      ap (reported_by k q) (sym (append_assoc xs (e ∷ []) es)) ∙ told_none (xs ++ e ∷ []) es both.1 ∙ told_one xs e (not-true (is_frame e.frame eto) both.0)

  -- one that is none and the next one, which is no data
  told_pair : (xs : List Entry) (d e : Entry) → is_frame d.frame eto ≡ false → reported_by k q (xs ++ d ∷ e ∷ []) ≡ reported_by k q xs ++ (if counted d (is_ended k d (e ∷ [])) then byte_of d.frame ∷ [] else [])
  told_pair [] d e other = ap (adds d (is_ended k d (e ∷ []))) (alone e)
  told_pair (x ∷ xs) d e other =
      ap₂ (adds x) (ended_before x xs (e ∷ []) d other) (told_pair xs d e other)
      ∙ chosen (counted x (is_ended k x xs)) (byte_of x.frame) (reported_by k q xs) (if counted d (is_ended k d (e ∷ [])) then byte_of d.frame ∷ [] else [])

  data_no_eto : (f : Frame) → is_data f ≡ true → is_frame f eto ≡ false
  data_no_eto f bytes = by (class_of f) bytes
    where
      by : (c : Class) → is_data_class c ≡ true → (same_class c class.Rdy && (byte_of f == 0x40)) ≡ false
      by class.Dab bytes = refl
      by class.Dsr bytes = refl
      by class.End bytes = refl
      by class.Esr bytes = refl
      by _ bytes = cc

  -- a byte of this device that ended by ETO
  pub told_mine : (xs : List Entry) (p : ℕ) (f back : Frame) → p ≡ q → is_data f ≡ true → reported_by k q (xs ++ entry p f (outcome.Back back) ∷ entry p eto (outcome.Taken k) ∷ []) ≡ reported_by k q xs ++ byte_of f ∷ []
  told_mine xs p f back mine bytes =
      let d = entry p f (outcome.Back back) in
      let e = entry p eto (outcome.Taken k) in
      told_pair xs d e (data_no_eto f bytes)
      ∙ ap (λ c. reported_by k q xs ++ (if c && (is_data f && is_ended k d (e ∷ [])) then byte_of f ∷ [] else [])) (eq-eqb p q mine)
      ∙ ap (λ b. reported_by k q xs ++ (if b && is_ended k d (e ∷ []) then byte_of f ∷ [] else [])) bytes
      ∙ ap₂ (λ a b. reported_by k q xs ++ (if a && b then byte_of f ∷ [] else [])) (eq-eqb p p refl) (eq-eqb k k refl)

  -- one of another
  pub told_other : (xs : List Entry) (p : ℕ) (f back : Frame) → p ≢ q → is_data f ≡ true → reported_by k q (xs ++ entry p f (outcome.Back back) ∷ entry p eto (outcome.Taken k) ∷ []) ≡ reported_by k q xs
  told_other xs p f back other bytes =
      let d = entry p f (outcome.Back back) in
      let e = entry p eto (outcome.Taken k) in
      told_pair xs d e (data_no_eto f bytes)
      ∙ ap (λ c. reported_by k q xs ++ (if c && (is_data f && is_ended k d (e ∷ [])) then byte_of f ∷ [] else [])) (ne_eqb p q other)
      ∙ append-nil (reported_by k q xs)

-- ---- statuses

-- the status was reported once more, and is 0 then
pub tells_more : (before : ℕ) (bytes : List ℕ) (now byte then_ : ℕ) → ReportsStatus before bytes now → byte ≡ status_byte_of now → then_ ≡ 0 → ReportsStatus before (bytes ++ byte ∷ []) then_
tells_more before [] now byte then_ tells is none = (is ∙ ap status_byte_of tells, All-nil (λ b. b ≡ 0), none)
tells_more before (x ∷ bytes) now byte then_ tells is none = (tells.0, All-append (λ b. b ≡ 0) bytes (byte ∷ []) tells.1 (All-cons (λ b. b ≡ 0) byte [] (is ∙ ap status_byte_of tells.2) (All-nil (λ b. b ≡ 0))), none)

pub tells_left : (before : ℕ) (bytes : List ℕ) (now : ℕ) → ReportsStatus before bytes now → StatusLeft start.Status before now
tells_left before [] now tells = inl tells
tells_left before (x ∷ bytes) now tells = inr tells.2
