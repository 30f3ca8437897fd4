-- Exchanges that keep to what is due, stage by stage.
use Rattle.std.proofs.Common.{◌≡◌, ◌++◌, ◌&&◌, ◌∙◌, ◌==◌, Bool, true, false, List, [], ◌∷◌, refl, sym, ap, ap₂, subst}
use Rattle.std.specs.List.{list_all}
use Rattle.std.proofs.lemmas.Bool.{and_parts, and_from, eq-eqb}
use Rattle.il_frames.specs.declared.frame.Frame.{Frame}
use Rattle.il_frames.specs.Frames.{byte_of, class_of, number_of_class, same_class}
use Rattle.il_ports.specs.Media.{MediumView}
use Rattle.loop_model.specs.Exchanges.{Exchange, Command, Address, Piece, Whole, Cut, are_whole, breaks_off, can_cut, entries_of, is_exchange, is_piece}
use Rattle.loop_model.specs.Effect.{UnitsEffect}
use Rattle.loop_model.specs.Loops.{Loop}
use Rattle.loop_model.specs.Units.{RecordUnit, units_of, ends_within}
use Rattle.loop_model.proofs.EffectLaws.{ends_within-append, units_of-append, UnitsEffect-append}
use Rattle.il_frames.specs.NamedFrames.{is_frame}
use Rattle.il_ring.specs.Rings.{RingView}
use Rattle.il_control.specs.Calls.{IsFree, loop_of}
use Rattle.il_record.specs.Asks.{Ask, AskCommand, AskAddresses, Asked, CameAsked, IsFirstOf, ask_of}
use Rattle.il_record.specs.Came.{CameUnits}
use Rattle.il_record.proofs.Talks.{talked_then, same_loop}
use Rattle.host_model.specs.Courses.{Due, begins_with, keeps_to, is_commanding, is_numbering}

-- ---- one part after the other

-- what is due first was done whole, and then what is due after it
pub keeps_front : (front course : List Due) (ps qs : List Piece) → keeps_to front ps ≡ true → are_whole ps ≡ true → keeps_to course qs ≡ true → keeps_to (front ++ course) (ps ++ qs) ≡ true
keeps_front [] course [] qs first whole more = more
keeps_front (test ∷ front) course (Whole x ∷ ps) qs first whole more =
    let parts = and_parts (test true x) (keeps_to front ps) first in
    and_from (test true x) (keeps_to (front ++ course) (ps ++ qs)) parts.0 (keeps_front front course ps qs parts.1 whole more)
keeps_front (test ∷ front) course (Cut x n b ∷ ps) qs first whole more = cc
keeps_front _ course _ qs first whole more = cc

-- what is due first was broken off, and with it the whole course
pub keeps_cut : (front course : List Due) (ps : List Piece) → keeps_to front ps ≡ true → breaks_off ps ≡ true → keeps_to (front ++ course) ps ≡ true
keeps_cut front course [] first broken = cc
keeps_cut [] course (p ∷ ps) first broken = cc
keeps_cut (test ∷ front) course (Whole x ∷ ps) first broken =
    let parts = and_parts (test true x) (keeps_to front ps) first in
    and_from (test true x) (keeps_to (front ++ course) ps) parts.0 (keeps_cut front course ps parts.1 broken)
keeps_cut (test ∷ front) course (Cut x n b ∷ []) first broken = first
keeps_cut (test ∷ front) course (Cut x n b ∷ p ∷ ps) first broken = cc

-- ---- what was asked for

-- A whole exchange that is what was asked for is the one that is due, and so is a broken one that is its beginning.
pub record MeetsOne (l : Loop) (ask : Ask) (due : Due) : Type 0 where
  pub whole : (x : Exchange) → is_exchange l x ≡ true → ask_of x ≡ ask → due true x ≡ true
  pub broken : (x : Exchange) → is_exchange l x ≡ true → IsFirstOf (ask_of x) ask → due false x ≡ true

-- one by one
abbrev pub Meets : Loop → List Ask → List Due → Type 0
Meets l [] [] = Unit {0}
Meets l (ask ∷ asks) (due ∷ dues) = MeetsOne l ask due × Meets l asks dues
Meets l [] (due ∷ dues) = ⊥
Meets l (ask ∷ asks) [] = ⊥

-- one list after the other
pub meets_then : (l : Loop) (asks more : List Ask) (dues course : List Due) → Meets l asks dues → Meets l more course → Meets l (asks ++ more) (dues ++ course)
meets_then l [] more [] course first rest = rest
meets_then l (ask ∷ asks) more (due ∷ dues) course first rest = (first.0, meets_then l asks more dues course first.1 rest)
meets_then l _ more _ course first rest = absurd first

-- exchanges that are those asked for are those that are due
pub asked_keeps : (l : Loop) (asks : List Ask) (dues : List Due) (pieces : List Piece) (whole : Bool) → list_all (is_piece l) pieces ≡ true → Asked asks pieces whole → Meets l asks dues → keeps_to dues pieces ≡ true
asked_keeps l [] [] [] whole legal asked meets = refl
asked_keeps l [] (due ∷ dues) pieces whole legal asked meets = absurd meets
asked_keeps l (ask ∷ asks) [] pieces whole legal asked meets = absurd meets
asked_keeps l (ask ∷ asks) (due ∷ dues) (Whole x ∷ pieces) whole legal asked meets =
    let parts = and_parts (is_exchange l x) (list_all (is_piece l) pieces) legal in
    and_from (due true x) (keeps_to dues pieces) (meets.0.whole x parts.0 asked.0) (asked_keeps l asks dues pieces whole parts.1 asked.1 meets.1)
asked_keeps l (ask ∷ asks) (due ∷ dues) (Cut x n b ∷ []) true legal asked meets = absurd asked
asked_keeps l (ask ∷ asks) (due ∷ dues) (Cut x n b ∷ []) false legal asked meets =
    let parts = and_parts (is_exchange l x && can_cut l.controller (entries_of l.controller x) n b) true legal in
    meets.0.broken x (and_parts (is_exchange l x) (can_cut l.controller (entries_of l.controller x) n b) parts.0).0 asked
asked_keeps l (ask ∷ asks) (due ∷ dues) (Cut x n b ∷ p ∷ pieces) whole legal asked meets = absurd asked
asked_keeps l _ _ _ whole legal asked meets = absurd asked

-- ---- commands and addresses

-- a frame is itself
pub same_frame : (f : Frame) → is_frame f f ≡ true
same_frame f = and_from (same_class (class_of f) (class_of f)) (byte_of f == byte_of f) (eq-eqb (number_of_class (class_of f)) (number_of_class (class_of f)) refl) (eq-eqb (byte_of f) (byte_of f) refl)

-- a command
pub meets_command : (l : Loop) (f : Frame) → MeetsOne l (AskCommand f) (is_commanding f)
meets_command l f = record { whole = whole; broken = broken }
  where
    whole : (x : Exchange) → is_exchange l x ≡ true → ask_of x ≡ AskCommand f → is_commanding f true x ≡ true
    whole (Command g) legal is = let same : g ≡ f = cc in subst (λ g. is_frame f g ≡ true) (sym same) (same_frame f)
    whole _ legal is = cc

    broken : (x : Exchange) → is_exchange l x ≡ true → IsFirstOf (ask_of x) (AskCommand f) → is_commanding f false x ≡ true
    broken (Command g) legal is = let same : g ≡ f = cc in subst (λ g. is_frame f g ≡ true) (sym same) (same_frame f)
    broken (Address devices) legal is = cc
    broken _ legal is = let clash = is.1 in cc

-- the addresses of all devices
pub meets_addresses : (l : Loop) → MeetsOne l AskAddresses (is_numbering l.devices)
meets_addresses l = record { whole = whole; broken = broken }
  where
    whole : (x : Exchange) → is_exchange l x ≡ true → ask_of x ≡ AskAddresses → is_numbering l.devices true x ≡ true
    whole (Address devices) legal is = legal
    whole _ legal is = cc

    broken : (x : Exchange) → is_exchange l x ≡ true → IsFirstOf (ask_of x) AskAddresses → is_numbering l.devices false x ≡ true
    broken (Command g) legal is = cc
    broken (Address devices) legal is = legal
    broken _ legal is = let clash = is.1 in cc

-- ---- stages of a command

-- The ring r became s by exchanges, whole or broken off, that keep to what is due, and no exchange of them moved a record.
pub record Keeps {M : Type 0} (view : M → MediumView) (whole : Bool) (dues : List Due) (r s : RingView M) : Type 0 where
  pub came : CameUnits view whole [] r s
  pub keeps : keeps_to dues came.came.pieces ≡ true

module _ {M : Type 0} (view : M → MediumView) where
  -- from what was asked for
  pub keeps_asked : (whole : Bool) (asks : List Ask) (dues : List Due) (r s : RingView M) → CameAsked view whole asks r s → Meets (loop_of r) asks dues → Keeps view whole dues r s
  keeps_asked whole asks dues r s came meets = record {
    came = came.units;
    keeps = asked_keeps (loop_of r) asks dues came.units.came.pieces whole came.units.came.talked.legal came.asked meets;
  }

  -- one call after the other, from a ring on which no frame is held
  abbrev pub came_behind : (whole : Bool) (us ws : List RecordUnit) (r m s : RingView M) → IsFree r → CameUnits view true us r m → CameUnits view whole ws m s → CameUnits view whole (us ++ ws) r s
  came_behind whole us ws r m s free first more =
      let ps = first.came.pieces in
      let qs = more.came.pieces in
      let loops : loop_of m ≡ loop_of r = same_loop view r m _ _ _ first.came.talked.adds in
      let outside : ends_within (loop_of r) qs ≡ false = ap (λ l. ends_within l qs) (sym loops) ∙ more.came.outside in
      let behind : units_of (loop_of r) qs ≡ units_of (loop_of m) qs = ap (λ l. units_of l qs) (sym loops) in
      let both = units_of-append (loop_of r) ps qs first.came.outside in
      record {
        came = record {
          pieces = ps ++ qs;
          talked = talked_then view whole ps qs r m s free first.came.talked more.came.talked;
          outside = ends_within-append (loop_of r) ps qs first.came.outside outside;
          effect = λ t told.
              let u = first.came.effect t told in
              let w = more.came.effect u.0 u.1 in
              (w.0, w.1, subst (λ vs. UnitsEffect vs t w.0) (sym both) ((UnitsEffect-append (units_of (loop_of r) ps) (units_of (loop_of r) qs) t w.0).1 (u.0, u.2, subst (λ vs. UnitsEffect vs u.0 w.0) (sym behind) w.2)));
        };
        are = both ∙ ap₂ (λ us ws. us ++ ws) first.are (behind ∙ more.are);
      }

  -- one stage after the other
  pub keeps_then : (whole : Bool) (front course : List Due) (r m s : RingView M) → IsFree r → Keeps view true front r m → Keeps view whole course m s → Keeps view whole (front ++ course) r s
  keeps_then whole front course r m s free first more = record {
    came = came_behind whole [] [] r m s free first.came more.came;
    keeps = keeps_front front course first.came.came.pieces more.came.came.pieces first.keeps first.came.came.talked.ends more.keeps;
  }

  -- a stage that was broken off ends the course
  pub keeps_broken : (front course : List Due) (r s : RingView M) → Keeps view false front r s → Keeps view false (front ++ course) r s
  keeps_broken front course r s first = record { came = first.came; keeps = keeps_cut front course first.came.came.pieces first.keeps first.came.came.talked.ends }

-- ---- exchanges that begin with what is due

-- those that are due are a beginning
pub keeps_begins : (dues : List Due) (ps : List Piece) → keeps_to dues ps ≡ true → begins_with dues ps ≡ true
keeps_begins [] ps keeps = refl
keeps_begins (test ∷ dues) [] keeps = cc
keeps_begins (test ∷ dues) (Whole x ∷ ps) keeps =
    let parts = and_parts (test true x) (keeps_to dues ps) keeps in
    and_from (test true x) (begins_with dues ps) parts.0 (keeps_begins dues ps parts.1)
keeps_begins (test ∷ dues) (Cut x n b ∷ []) keeps = keeps
keeps_begins (test ∷ dues) (Cut x n b ∷ p ∷ ps) keeps = cc

-- and so they are with others after them, where they are whole
pub begins_front : (dues : List Due) (ps qs : List Piece) → keeps_to dues ps ≡ true → are_whole ps ≡ true → begins_with dues (ps ++ qs) ≡ true
begins_front [] ps qs keeps whole = refl
begins_front (test ∷ dues) [] qs keeps whole = cc
begins_front (test ∷ dues) (Whole x ∷ ps) qs keeps whole =
    let parts = and_parts (test true x) (keeps_to dues ps) keeps in
    and_from (test true x) (begins_with dues (ps ++ qs)) parts.0 (begins_front dues ps qs parts.1 whole)
begins_front (test ∷ dues) (Cut x n b ∷ ps) qs keeps whole = cc
