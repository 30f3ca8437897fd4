-- Where the machine comes to between two exchanges, the log is a list of whole and broken exchanges.
use Rattle.std.proofs.Common.{nat_le, eqb-true, ◌≡◌, ◌≤◌, ◌∙◌, ◌==◌, ℕ, Bool, true, false, Option, Some, None, inl, inr, refl, sym, ap, subst, arith}
use Rattle.std.specs.Prelude.{if◌then◌else◌}
use Rattle.std.proofs.lemmas.Bool.{and_parts, leb-true, cases_eq}
use Rattle.il_frames.specs.declared.frame.Class.{Class}
use Rattle.il_frames.specs.declared.frame.Class.TheVariants as class
use Rattle.il_frames.specs.declared.frame.Frame.{Frame}
use Rattle.il_frames.specs.declared.entry.Entry.{Entry}
use Rattle.il_frames.specs.declared.entry.Outcome.{Outcome}
use Rattle.il_frames.specs.declared.entry.Outcome.TheVariants as outcome
use Rattle.il_frames.specs.Frames.{framed, class_of, byte_of, same_class, is_data, same_but_service, with_service, class_with_service}
use Rattle.il_frames.proofs.ReadBack.{class_from_number}
use Rattle.il_frames.specs.NamedFrames.{entry, ready, is_frame}
use Rattle.loop_model.specs.Exchanges.{Start, Sda, Sst, Sdi, Sai, start_frame, returned}
use Rattle.trace_readers.specs.declared.exchanges.Fate.TheVariants as fate
use Rattle.trace_readers.specs.declared.exchanges.Place.{Place}
use Rattle.trace_readers.specs.declared.exchanges.Place.TheVariants as place
use Rattle.trace_readers.specs.Places.{fate_of, plain, after_returned, after_data, after_end, after_start, is_within, after_frame, is_start_frame, after_due_start, after_spoken, after_end_frame}

-- ---- equal frames

pub is_frame-true : (f g : Frame) → is_frame f g ≡ true → f ≡ g
is_frame-true f g e =
    let parts = and_parts (same_class (class_of f) (class_of g)) (byte_of f == byte_of g) e in
    let kind = class_from_number (class_of f) (class_of g) (eqb-true _ _ parts.0) in
    ap (λ (c : Class). framed c (byte_of f)) kind ∙ ap (λ (n : ℕ). framed (class_of g) n) (eqb-true _ _ parts.1)

-- the class has no service bit, and is none of data
abbrev pub is_fixed : Class → Bool
is_fixed class.Cmd = true
is_fixed class.Rdy = true
is_fixed c = false

fixed_class : (c d : Class) → is_fixed c ≡ true → same_class (class_with_service c) (class_with_service d) ≡ true →
    c ≡ d
fixed_class class.Cmd class.Cmd e h = refl
fixed_class class.Cmd d e h = cc
fixed_class class.Rdy class.Rdy e h = refl
fixed_class class.Rdy d e h = cc
fixed_class c d e h = cc

fixed_same : (f g : Frame) → is_fixed (class_of f) ≡ true → same_but_service f g ≡ true → f ≡ g
fixed_same f g fixed e =
    let parts =
    and_parts (same_class (class_of (with_service f)) (class_of (with_service g))) (byte_of f == byte_of g) e in
    ap (λ (c : Class). framed c (byte_of f)) (fixed_class (class_of f) (class_of g) fixed parts.0)
    ∙ ap (λ (n : ℕ). framed (class_of g) n) (eqb-true _ _ parts.1)

pub entry_parts : (e : Entry) (s : ℕ) (f : Frame) (o : Outcome) → e.source ≡ s → e.frame ≡ f → e.outcome ≡ o →
    e ≡ entry s f o
entry_parts e s f o p q r =
    ap (λ (n : ℕ). entry n e.frame e.outcome) p ∙ ap (λ (g : Frame). entry s g e.outcome) q
    ∙ ap (λ (x : Outcome). entry s f x) r

pub if_some : {A : Type 0} (b : Bool) (o : Option A) (x : A) → (if b then o else None) ≡ Some x →
    (b ≡ true) × (o ≡ Some x)
if_some true o x e = (refl, e)
if_some false o x e = cc

pub some_same : {A : Type 0} (x y : A) → Some x ≡ Some y → x ≡ y
some_same x y e = cc

-- ---- what an entry is that leads on

-- a frame of the host that came back as it was, or was lost
pub data Went (f : Frame) (e : Entry) (next at : Place) : Type 0 where
  Came : e ≡ returned 0 f → at ≡ next → Went f e next at
  Gone : (q : ℕ) → e ≡ entry 0 f (outcome.Lost q) → at ≡ plain → Went f e next at

pub went_by : (o : Outcome) (f : Frame) (next at : Place) → is_fixed (class_of f) ≡ true →
    after_returned next (fate_of f o) ≡ Some at →
    Went f (entry 0 f o) next at
went_by (outcome.Back g) f next at fixed leads = by_same (same_but_service f g) refl leads
  where
    by_same : (b : Bool) → same_but_service f g ≡ b →
        after_returned next (if b then fate.Returned else fate.Altered) ≡ Some at →
        Went f (entry 0 f (outcome.Back g)) next at
    by_same true same leads_on =
        Came (ap (λ (h : Frame). entry 0 f (outcome.Back h)) (sym (fixed_same f g fixed same))) (sym
        (some_same next at leads_on))
    by_same false same leads_on = cc
went_by (outcome.Taken q) f next at fixed leads = cc
went_by (outcome.Lost q) f next at fixed leads = Gone q refl (sym (some_same plain at leads))

-- the entry has this source and this frame
pub as_entry : (e : Entry) (s : ℕ) → (e.source == s) ≡ true → e ≡ entry s e.frame e.outcome
as_entry e s h = entry_parts e s e.frame e.outcome (eqb-true _ _ h) refl refl

pub went : (f : Frame) (next at : Place) (e : Entry) → is_fixed (class_of f) ≡ true →
    after_frame f next e ≡ Some at → Went f e next at
went f next at e fixed leads =
    let on = if_some _ _ at leads in
    let both = and_parts (e.source == 0) (is_frame e.frame f) on.0 in
    let frame = is_frame-true e.frame f both.1 in
    let is : e ≡ entry 0 f e.outcome = entry_parts e 0 f e.outcome (eqb-true _ _ both.0) frame refl in
    subst (λ (x : Entry). Went f x next at) (sym is)
    (went_by e.outcome f next at fixed (subst (λ (g : Frame). after_returned next
    (fate_of g e.outcome) ≡ Some at) frame on.1))

-- a data or end frame of a party that came back, or as another, or was lost
pub data Spoke (p : ℕ) (f : Frame) (e : Entry) (next altered at : Place) : Type 0 where
  Echoed : (g : Frame) → e ≡ entry p f (outcome.Back g) → same_but_service f g ≡ true → at ≡ next →
      Spoke p f e next altered at
  Changed : (g : Frame) → e ≡ entry p f (outcome.Back g) → same_but_service f g ≡ false → at ≡ altered →
      Spoke p f e next altered at
  Dropped : (q : ℕ) → e ≡ entry p f (outcome.Lost q) → at ≡ plain → Spoke p f e next altered at

pub spoke_by : (p : ℕ) (o : Outcome) (f : Frame) (next altered at : Place) →
    after_data next altered (fate_of f o) ≡ Some at →
    Spoke p f (entry p f o) next altered at
spoke_by p (outcome.Back g) f next altered at leads = by_same (same_but_service f g) refl leads
  where
    by_same : (b : Bool) → same_but_service f g ≡ b →
        after_data next altered (if b then fate.Returned else fate.Altered) ≡ Some at →
        Spoke p f (entry p f (outcome.Back g)) next altered at
    by_same true same leads_on = Echoed g refl same (sym (some_same next at leads_on))
    by_same false same leads_on = Changed g refl same (sym (some_same altered at leads_on))
spoke_by p (outcome.Taken q) f next altered at leads = cc
spoke_by p (outcome.Lost q) f next altered at leads = Dropped q refl (sym (some_same plain at leads))

pub spoke : (p : ℕ) (next at : Place) (e : Entry) → after_spoken p next e ≡ Some at →
    (is_data e.frame ≡ true) × Spoke p e.frame e next (place.Failed p) at
spoke p next at e leads =
    let on = if_some _ _ at leads in
    let both = and_parts (e.source == p) (is_data e.frame) on.0 in (
      both.1,
      subst (λ (x : Entry). Spoke p e.frame x next (place.Failed p) at) (sym (as_entry e p both.0))
          (spoke_by p e.outcome e.frame next (place.Failed p) at on.1),
    )

-- a frame of a party that the host took, or that was lost
pub data Ended (p : ℕ) (f : Frame) (e : Entry) (next at : Place) : Type 0 where
  Took : e ≡ entry p f (outcome.Taken 0) → at ≡ next → Ended p f e next at
  Missed : (q : ℕ) → e ≡ entry p f (outcome.Lost q) → at ≡ plain → Ended p f e next at

ended_by : (p : ℕ) (o : Outcome) (f : Frame) (next at : Place) → after_end next (fate_of f o) ≡ Some at →
    Ended p f (entry p f o) next at
ended_by p (outcome.Back g) f next at leads = by_same (same_but_service f g) leads
  where
    by_same : (b : Bool) → after_end next (if b then fate.Returned else fate.Altered) ≡ Some at →
        Ended p f (entry p f (outcome.Back g)) next at
    by_same true leads_on = cc
    by_same false leads_on = cc
ended_by p (outcome.Taken q) f next at leads =
    let on = if_some (q == 0) (Some next) at leads in
    Took (ap (λ (n : ℕ). entry p f (outcome.Taken n)) (eqb-true q 0 on.0)) (sym (some_same next at on.1))
ended_by p (outcome.Lost q) f next at leads = Missed q refl (sym (some_same plain at leads))

pub ended : (p : ℕ) (f : Frame) (next at : Place) (e : Entry) → after_end_frame p f next e ≡ Some at →
    Ended p f e next at
ended p f next at e leads =
    let on = if_some _ _ at leads in
    let both = and_parts (e.source == p) (is_frame e.frame f) on.0 in
    let frame = is_frame-true e.frame f both.1 in
    let is : e ≡ entry p f e.outcome = entry_parts e p f e.outcome (eqb-true _ _ both.0) frame refl in
    subst (λ (x : Entry). Ended p f x next at) (sym is)
    (ended_by p e.outcome f next at (subst (λ (g : Frame). after_end next (fate_of g e.outcome) ≡ Some at) frame on.1))

-- a start message that came back, or was taken by another party than the host, or was lost
pub data Started (s : Start) (e : Entry) (at : Place) : Type 0 where
  Unanswered : e ≡ returned 0 (start_frame s) → at ≡ place.Answered → Started s e at
  Answering : (p : ℕ) → e ≡ entry 0 (start_frame s) (outcome.Taken p) → (p == 0) ≡ false →
      at ≡ place.Talking p false → Started s e at
  Unstarted : (q : ℕ) → e ≡ entry 0 (start_frame s) (outcome.Lost q) → at ≡ plain → Started s e at

start_fixed : (s : Start) → is_fixed (class_of (start_frame s)) ≡ true
start_fixed Sda = refl
start_fixed Sst = refl
start_fixed Sdi = refl
start_fixed Sai = refl

started_by : (s : Start) (o : Outcome) (at : Place) → after_start (fate_of (start_frame s) o) ≡ Some at →
    Started s (entry 0 (start_frame s) o) at
started_by s (outcome.Back g) at leads = by_same (same_but_service (start_frame s) g) refl leads
  where
    by_same : (b : Bool) → same_but_service (start_frame s) g ≡ b →
        after_start (if b then fate.Returned else fate.Altered) ≡ Some at →
        Started s (entry 0 (start_frame s) (outcome.Back g)) at
    by_same true same leads_on =
        Unanswered (ap (λ (h : Frame). entry 0 (start_frame s) (outcome.Back h)) (sym (fixed_same (start_frame s) g
        (start_fixed s) same)))
        (sym (some_same place.Answered at leads_on))
    by_same false same leads_on = cc
started_by s (outcome.Taken p) at leads = by_host (p == 0) refl leads
  where
    by_host : (b : Bool) → (p == 0) ≡ b → (if b then None else Some (place.Talking p false)) ≡ Some at →
        Started s (entry 0 (start_frame s) (outcome.Taken p)) at
    by_host true host leads_on = cc
    by_host false host leads_on = Answering p refl host (sym (some_same (place.Talking p false) at leads_on))
started_by s (outcome.Lost q) at leads = Unstarted q refl (sym (some_same plain at leads))

-- the start message of a byte
start_at : (byte : ℕ) → is_within 0x60 0x63 byte ≡ true → (s : Start) × (ready byte ≡ start_frame s)
start_at byte within =
    let parts = and_parts (nat_le 0x60 byte) (nat_le byte 0x63) within in
    by_place byte (leb-true 0x60 byte parts.0) (leb-true byte 0x63 parts.1)
  where
    by_place : (n : ℕ) → 0x60 ≤ n → n ≤ 0x63 → (s : Start) × (ready n ≡ start_frame s)
    by_place n low high =
        elim (cases_eq n 0x60) [
          | inl a ↦ (Sda, ap ready a)
          | inr a ↦ elim (cases_eq n 0x61) [
            | inl b ↦ (Sst, ap ready b)
            | inr b ↦ elim (cases_eq n 0x62) [
              | inl c ↦ (Sdi, ap ready c)
              | inr c ↦ let last : n ≡ 0x63 = omega (arith, a, b, c) in (Sai, ap ready last)
            ]
          ]
        ]

pub class_is : (f : Frame) (c : Class) → same_class (class_of f) c ≡ true → f ≡ framed c (byte_of f)
class_is f c e = ap (λ (k : Class). framed k (byte_of f)) (class_from_number (class_of f) c (eqb-true _ _ e))

pub started : (e : Entry) (at : Place) → after_due_start e ≡ Some at → (s : Start) × Started s e at
started e at leads =
    let on = if_some _ _ at leads in
    let both = and_parts (e.source == 0) (is_start_frame e.frame) on.0 in
    let kinds = and_parts (same_class (class_of e.frame) class.Rdy) (is_within 0x60 0x63 (byte_of e.frame)) both.1 in
    let start = start_at (byte_of e.frame) kinds.1 in
    let frame : e.frame ≡ start_frame start.0 = class_is e.frame class.Rdy kinds.0 ∙ start.1 in
    let is : e ≡ entry 0 (start_frame start.0) e.outcome =
    entry_parts e 0 (start_frame start.0) e.outcome (eqb-true _ _ both.0) frame refl in (
      start.0,
      subst (λ (x : Entry). Started start.0 x at) (sym is)
          (started_by start.0 e.outcome at (subst (λ (g : Frame). after_start
          (fate_of g e.outcome) ≡ Some at) frame on.1)),
    )
