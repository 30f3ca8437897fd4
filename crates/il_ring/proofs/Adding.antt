-- Rounds one after the other.
use Rattle.std.proofs.Common.{◌≡◌, ◌+◌, ◌++◌, ℕ, List, [], ◌∷◌, Option, None, length, refl, sym, ap, subst, ◌∙◌, arith, append_assoc, append-nil}
use Rattle.std.specs.List.{list_all}
use Rattle.std.proofs.lemmas.Bool.{and_from}
use Rattle.std.proofs.lemmas.List.Folds.{list_all-append}
use Rattle.il_frames.specs.declared.entry.Entry.{Entry}
use Rattle.il_device.specs.State.{DeviceState, risen_by}
use Rattle.il_ports.specs.Media.{MediumView}
use Rattle.il_drive.proofs.Beginning.{joins}
use Rattle.loop_model.specs.Reach.{held_links, links_so_far}
use Rattle.loop_model.specs.Roles.{roles_after}
use Rattle.loop_model.proofs.ReachLaws.{links_so_far-append, passes_so_far-append}
use Rattle.loop_model.proofs.RoleLaws.{roles_after-append}
use Rattle.il_ring.specs.Guests.{IsUnderHost}
use Rattle.il_ring.specs.Rings.{RingView, devices_of, roles_of}
use Rattle.il_ring.specs.Rounded.{AllTook}
use Rattle.il_ring.specs.Adds.{Adds}
use Rattle.il_ring.specs.Turned.{is_on}
use Rattle.il_ring.proofs.Counts.{risen_by-add}
use Rattle.il_ring.proofs.RoundPlaces.{no_poll_parts, places_nothing, places_then}

-- ---- frames of devices

took_then : (k j : ℕ) (a b c : Option ℕ) (xs ys : List Entry) (ds es gs : List DeviceState) → AllTook k a xs b j ds es → AllTook k b ys c j es gs → AllTook k a (xs ++ ys) c j ds gs
took_then k j a b c xs ys [] [] [] first more = tt
took_then k j a b c xs ys (d ∷ ds) (e ∷ es) (g ∷ gs) first more = (
  (
    first.0.0 + more.0.0,
    more.0.1 ∙ ap (risen_by more.0.0) first.0.1 ∙ sym (risen_by-add first.0.0 more.0.0 d.frames),
    (let sum = passes_so_far-append k (j + 1) xs ys c in omega (arith, sum, first.0.2, more.0.2)),
  ),
  took_then k (j + 1) a b c xs ys ds es gs first.1 more.1,
)
took_then k j a b c xs ys [] [] (g ∷ gs) first more = absurd more
took_then k j a b c xs ys [] (e ∷ es) gs first more = absurd first
took_then k j a b c xs ys (d ∷ ds) [] gs first more = absurd first
took_then k j a b c xs ys (d ∷ ds) (e ∷ es) [] first more = absurd more

took_nothing : (k j : ℕ) (a : Option ℕ) (ds : List DeviceState) → AllTook k a [] a j ds ds
took_nothing k j a [] = tt
took_nothing k j a (d ∷ ds) = ((0, refl, omega arith), took_nothing k (j + 1) a ds)

took_held : (k j : ℕ) (a : Option ℕ) (xs : List Entry) (ds es : List DeviceState) → AllTook k None xs None j ds es → AllTook k a xs a j ds es
took_held k j a xs [] [] took = tt
took_held k j a xs (d ∷ ds) (e ∷ es) took = ((took.0.0, took.0.1, omega (arith, took.0.2)), took_held k (j + 1) a xs ds es took.1)
took_held k j a xs [] (e ∷ es) took = absurd took
took_held k j a xs (d ∷ ds) [] took = absurd took

-- ---- the sums

-- before the first round
pub adds_nothing : {M : Type 0} (view : M → MediumView) (r : RingView M) (a : Option ℕ) → Adds view r a [] a r
adds_nothing view r a = record {
  log = sym (append-nil r.books.log);
  on = refl;
  plan = refl;
  begun = refl;
  room = refl;
  guest = (refl, λ under. refl);
  before = refl;
  size = refl;
  links = 0;
  crossings = refl;
  linked = omega arith;
  frames = took_nothing (length (devices_of r)) 0 a (devices_of r);
  roles = refl;
  places = λ none. places_nothing (devices_of r);
  came = [];
  answers = [];
  drive = refl;
}

-- no frame came to the drive
pub adds_nothing-came : {M : Type 0} (view : M → MediumView) (r : RingView M) (a : Option ℕ) → (adds_nothing view r a).came ≡ []
unfolding adds_nothing
adds_nothing-came view r a = refl

pub adds_nothing-answers : {M : Type 0} (view : M → MediumView) (r : RingView M) (a : Option ℕ) → (adds_nothing view r a).answers ≡ []
unfolding adds_nothing
adds_nothing-answers view r a = refl

-- one after the other
pub adds_more : {M : Type 0} (view : M → MediumView) (r m s : RingView M) (a b c : Option ℕ) (xs ys : List Entry) → Adds view r a xs b m → Adds view m b ys c s → Adds view r a (xs ++ ys) c s
adds_more view r m s a b c xs ys first more =
    let k = length (devices_of r) in
    let size : length (devices_of m) ≡ k = first.size in
    let linked : more.links + held_links k b ≡ links_so_far k ys c = subst (λ k. more.links + held_links k b ≡ links_so_far k ys c) size more.linked in
    record {
      log = more.log ∙ ap (λ log. log ++ ys) first.log ∙ append_assoc r.books.log xs ys;
      on = list_all-append (is_on k) xs ys ∙ and_from (list_all (is_on k) xs) (list_all (is_on k) ys) first.on (ap (λ k. list_all (is_on k) ys) (sym size) ∙ more.on);
      plan = more.plan ∙ first.plan;
      begun = more.begun ∙ first.begun;
      room = more.room ∙ first.room;
      guest = (more.guest.0 ∙ first.guest.0, λ under. let same = first.guest.1 under in more.guest.1 (subst IsUnderHost (sym same) under) ∙ same);
      before = more.before ∙ first.before;
      size = more.size ∙ first.size;
      links = first.links + more.links;
      crossings = more.crossings ∙ ap (risen_by more.links) first.crossings ∙ sym (risen_by-add first.links more.links r.books.crossings);
      linked = let sum = links_so_far-append k xs ys c in omega (arith, sum, first.linked, linked);
      frames = took_then k 0 a b c xs ys (devices_of r) (devices_of m) (devices_of s) first.frames (subst (λ k. AllTook k b ys c 0 (devices_of m) (devices_of s)) size more.frames);
      roles = more.roles ∙ ap (λ rs. roles_after rs ys) first.roles ∙ sym (roles_after-append (roles_of (devices_of r)) xs ys);
      places = λ none. let parts = no_poll_parts xs ys none in places_then (devices_of r) (devices_of m) (devices_of s) (first.places parts.0) (more.places parts.1);
      came = first.came ++ more.came;
      answers = first.answers ++ more.answers;
      drive = joins view first.came more.came first.answers more.answers r.drive m.drive s.drive first.drive more.drive;
    }

-- the frames of the first came to the drive, and then those of the other
pub adds_more-came : {M : Type 0} (view : M → MediumView) (r m s : RingView M) (a b c : Option ℕ) (xs ys : List Entry) (first : Adds view r a xs b m) (more : Adds view m b ys c s) → (adds_more view r m s a b c xs ys first more).came ≡ first.came ++ more.came
unfolding adds_more
adds_more-came view r m s a b c xs ys first more = refl

-- and so it answered
pub adds_more-answers : {M : Type 0} (view : M → MediumView) (r m s : RingView M) (a b c : Option ℕ) (xs ys : List Entry) (first : Adds view r a xs b m) (more : Adds view m b ys c s) → (adds_more view r m s a b c xs ys first more).answers ≡ first.answers ++ more.answers
unfolding adds_more
adds_more-answers view r m s a b c xs ys first more = refl

-- a frame that is held meanwhile counts on both sides, whether it stays or is dropped
pub adds_held : {M : Type 0} (view : M → MediumView) (r s : RingView M) (a : Option ℕ) (xs : List Entry) → Adds view r None xs None s → Adds view r a xs a s
adds_held view r s a xs adds = record {
  log = adds.log;
  on = adds.on;
  plan = adds.plan;
  begun = adds.begun;
  room = adds.room;
  guest = adds.guest;
  before = adds.before;
  size = adds.size;
  links = adds.links;
  crossings = adds.crossings;
  linked = omega (arith, adds.linked);
  frames = took_held (length (devices_of r)) 0 a xs (devices_of r) (devices_of s) adds.frames;
  roles = adds.roles;
  places = adds.places;
  came = adds.came;
  answers = adds.answers;
  drive = adds.drive;
}

-- and the same frames came to the drive
pub adds_held-came : {M : Type 0} (view : M → MediumView) (r s : RingView M) (a : Option ℕ) (xs : List Entry) (adds : Adds view r None xs None s) → (adds_held view r s a xs adds).came ≡ adds.came
unfolding adds_held
adds_held-came view r s a xs adds = refl

pub adds_held-answers : {M : Type 0} (view : M → MediumView) (r s : RingView M) (a : Option ℕ) (xs : List Entry) (adds : Adds view r None xs None s) → (adds_held view r s a xs adds).answers ≡ adds.answers
unfolding adds_held
adds_held-answers view r s a xs adds = refl
