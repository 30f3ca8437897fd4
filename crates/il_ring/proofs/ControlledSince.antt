-- What rounds one after the other add to the counts and the roles, whoever controls the loop.
use Rattle.std.proofs.Common.{◌≡◌, ◌∙◌, ◌+◌, ◌++◌, ℕ, zero, suc, List, [], ◌∷◌, None, length, cond, sum_by, refl, sym, ap, ap₂, subst, arith, append_assoc, append-nil}
use Rattle.std.proofs.lemmas.List.Sums.{sum_by-append}
use Rattle.il_frames.specs.declared.entry.Entry.{Entry}
use Rattle.il_device.specs.declared.roles.Roles.{Roles}
use Rattle.il_device.specs.State.{DeviceState, risen, risen_by}
use Rattle.il_ports.specs.Media.{MediumView}
use Rattle.loop_model.specs.Leading.{controller_after, roles_led}
use Rattle.loop_model.specs.Reach.{brings_to, links_of}
use Rattle.loop_model.specs.Roles.{roles_after}
use Rattle.loop_model.proofs.LeadingLaws.{controller_after-append, roles_led-append}
use Rattle.il_ring.specs.Adds.{Adds}
use Rattle.il_ring.specs.Books.{BooksView}
use Rattle.il_ring.specs.ControlledAdds.{AllTookSince, ControlledAdds, ControlledSince, standing}
use Rattle.il_ring.specs.Lending.{entry_of_kept, taken_back}
use Rattle.il_ring.specs.Rings.{RingView, devices_of, roles_of}
use Rattle.il_ring.specs.Rounded.{AllTook}

-- counts rise one after the other
risen_twice : (a b n : ℕ) → risen_by (a + b) n ≡ risen_by b (risen_by a n)
risen_twice zero b n = let e : zero + b ≡ b = omega arith in ap (λ k. risen_by k n) e
risen_twice (suc a) b n = let e : suc a + b ≡ suc (a + b) = omega arith in ap (λ k. risen_by k n) e ∙ risen_twice a b (risen n)

-- what stood between is counted once
sum_twice : (f : Entry → ℕ) (a b : ℕ) (before first between second after : List Entry) → a + sum_by f before ≡ sum_by f (first ++ between) → b + sum_by f between ≡ sum_by f (second ++ after)
    → (a + b) + sum_by f before ≡ sum_by f ((first ++ second) ++ after)
sum_twice f a b before first between second after one more =
    let at = sum_by-append f first between in
    let last = sum_by-append f second after in
    let all = sum_by-append f (first ++ second) after in
    let both = sum_by-append f first second in
    omega (arith, one, more, at, last, all, both)

took_same : (k j : ℕ) (before after : List Entry) (ds : List DeviceState) → after ≡ before → AllTookSince k before after j ds ds
took_same k j before after [] same = tt
took_same k j before after (d ∷ ds) same = ((0, refl, let e = ap (sum_by (λ x. cond (brings_to k (j + 1) x) 1 0)) same in omega (arith, e)), took_same k (j + 1) before after ds same)

took_twice : (k j : ℕ) (before first between second after : List Entry) (ds es fs : List DeviceState) → AllTookSince k before (first ++ between) j ds es → AllTookSince k between (second ++ after) j es fs
    → AllTookSince k before ((first ++ second) ++ after) j ds fs
took_twice k j before first between second after [] [] [] one more = tt
took_twice k j before first between second after [] [] (f ∷ fs) one more = more
took_twice k j before first between second after [] (e ∷ es) fs one more = absurd one
took_twice k j before first between second after (d ∷ ds) [] fs one more = absurd one
took_twice k j before first between second after (d ∷ ds) (e ∷ es) [] one more = absurd more
took_twice k j before first between second after (d ∷ ds) (e ∷ es) (f ∷ fs) one more =
    let a = one.0.0 in
    let b = more.0.0 in (
      (
        a + b,
        more.0.1 ∙ ap (risen_by b) one.0.1 ∙ sym (risen_twice a b d.frames),
        sum_twice (λ x. cond (brings_to k (j + 1) x) 1 0) a b before first between second after one.0.2 more.0.2,
      ),
      took_twice k (j + 1) before first between second after ds es fs one.1 more.1,
    )

-- at first nothing was added
pub since_none : {M : Type 0} (c : ℕ) (q : RingView M) → ControlledSince c c q q []
since_none c q = record {
  log = sym (append-nil q.books.log);
  size = refl;
  controls = refl;
  links = 0;
  crossings = refl;
  linked = omega arith;
  frames = took_same (length (devices_of q)) 0 (standing (length (devices_of q)) q.books) (standing (length (devices_of q)) q.books) (devices_of q) refl;
  roles = λ before stood. stood;
}

-- what came first, and what came then
pub since_append : {M : Type 0} (c d e : ℕ) (q r s : RingView M) (entries new : List Entry) → ControlledSince c d q r entries → ControlledSince d e r s new → ControlledSince c e q s (entries ++ new)
since_append c d e q r s entries new since more =
    let k : ℕ = length (devices_of q) in
    let size : length (devices_of r) ≡ k = since.size in
    let linked = subst (λ k. more.links + sum_by (links_of k) (standing k r.books) ≡ sum_by (links_of k) (new ++ standing k s.books)) size more.linked in
    let frames = subst (λ k. AllTookSince k (standing k r.books) (new ++ standing k s.books) 0 (devices_of r) (devices_of s)) size more.frames in
    let roles = subst (λ k. (before : List Roles) → roles_of (devices_of r) ≡ roles_led d before (standing k r.books) → roles_of (devices_of s) ≡ roles_led d before (new ++ standing k s.books)) size more.roles in
    record {
      log = more.log ∙ ap (λ log. log ++ new) since.log ∙ append_assoc q.books.log entries new;
      size = more.size ∙ size;
      controls = controller_after-append c entries new ∙ ap (λ c. controller_after c new) since.controls ∙ more.controls;
      links = since.links + more.links;
      crossings = more.crossings ∙ ap (risen_by more.links) since.crossings ∙ sym (risen_twice since.links more.links q.books.crossings);
      linked = sum_twice (links_of k) since.links more.links (standing k q.books) entries (standing k r.books) new (standing k s.books) since.linked linked;
      frames = took_twice k 0 (standing k q.books) entries (standing k r.books) new (standing k s.books) (devices_of q) (devices_of r) (devices_of s) since.frames frames;
      roles = λ before stood.
          let between : roles_of (devices_of r) ≡ roles_led d (roles_led c before entries) (standing k r.books) =
          since.roles before stood ∙ roles_led-append c before entries (standing k r.books) ∙ ap (λ d. roles_led d (roles_led c before entries) (standing k r.books)) since.controls in
          roles (roles_led c before entries) between
          ∙ sym (ap (λ d. roles_led d (roles_led c before entries) (new ++ standing k s.books)) since.controls)
          ∙ sym (roles_led-append c before entries (new ++ standing k s.books))
          ∙ ap (λ es. roles_led c before es) (sym (append_assoc entries new (standing k s.books)));
    }

-- a pass, in which nobody hands control over or takes it back
pub since_pass : {M : Type 0} (r s : RingView M) (adds : ControlledAdds r s) → controller_after (length (devices_of r)) adds.counts.entries ≡ length (devices_of r)
    → ControlledSince (length (devices_of r)) (length (devices_of r)) r s adds.counts.entries
since_pass r s adds stays = record {
  log = adds.counts.log;
  size = adds.counts.size;
  controls = stays;
  links = adds.counts.links;
  crossings = adds.counts.crossings;
  linked = adds.counts.linked;
  frames = adds.counts.frames;
  roles = adds.roles;
}

-- ---- if nothing is on the ring

pub none_stands : (k : ℕ) (b : BooksView) → b.lent ≡ None → b.kept ≡ None → standing k b ≡ []
none_stands k b lent kept = ap₂ (λ kept lent. entry_of_kept k kept ++ entry_of_kept 0 lent) kept lent

took_adds : (k j : ℕ) (entries : List Entry) (ds es : List DeviceState) → AllTook k None entries None j ds es → AllTookSince k [] (entries ++ []) j ds es
took_adds k j entries [] [] took = tt
took_adds k j entries [] (e ∷ es) took = took
took_adds k j entries (d ∷ ds) [] took = took
took_adds k j entries (d ∷ ds) (e ∷ es) took = (
  (took.0.0, took.0.1, let e = took.0.2 in let same = ap (sum_by (λ x. cond (brings_to k (j + 1) x) 1 0)) (append-nil entries) in omega (arith, e, same)),
  took_adds k (j + 1) entries ds es took.1,
)

-- rounds of the host
pub since_adds : {M : Type 0} (view : M → MediumView) (c d : ℕ) (q s : RingView M) (entries : List Entry) → Adds view q None entries None s → q.books.lent ≡ None → q.books.kept ≡ None → s.books.lent ≡ None → s.books.kept ≡ None
    → controller_after c entries ≡ d → ((rs : List Roles) → roles_led c rs entries ≡ roles_after rs entries) → ControlledSince c d q s entries
since_adds view c d q s entries adds lent kept lent_then kept_then controls same =
    let k : ℕ = length (devices_of q) in
    let before : standing k q.books ≡ [] = none_stands k q.books lent kept in
    let after : standing k s.books ≡ [] = none_stands k s.books lent_then kept_then in
    record {
      log = adds.log;
      size = adds.size;
      controls = controls;
      links = adds.links;
      crossings = adds.crossings;
      linked =
          let all = ap (sum_by (links_of k)) (ap (λ es. entries ++ es) after ∙ append-nil entries) in
          let none = ap (sum_by (links_of k)) before in
          let linked = adds.linked in
          omega (arith, all, none, linked);
      frames = subst (λ before. AllTookSince k before (entries ++ standing k s.books) 0 (devices_of q) (devices_of s)) (sym before) (subst (λ after. AllTookSince k [] (entries ++ after) 0 (devices_of q) (devices_of s)) (sym after) (took_adds k 0 entries (devices_of q) (devices_of s) adds.frames));
      roles = λ rs stood.
          let here : roles_of (devices_of q) ≡ rs = stood ∙ ap (roles_led c rs) before in
          adds.roles ∙ ap (λ rs. roles_after rs entries) here ∙ sym (same rs) ∙ ap (roles_led c rs) (sym (ap (λ es. entries ++ es) after ∙ append-nil entries));
    }

-- ---- the lending ends

-- what is on the ring is entered
pub since_back : {M : Type 0} (r : RingView M) → controller_after (length (devices_of r)) (standing (length (devices_of r)) r.books) ≡ length (devices_of r)
    → ControlledSince (length (devices_of r)) (length (devices_of r)) r (taken_back r) (standing (length (devices_of r)) r.books)
since_back r stays =
    let k : ℕ = length (devices_of r) in
    let all : standing k r.books ++ [] ≡ standing k r.books = append-nil (standing k r.books) in
    record {
      log = append_assoc r.books.log (entry_of_kept k r.books.kept) (entry_of_kept 0 r.books.lent);
      size = refl;
      controls = stays;
      links = 0;
      crossings = refl;
      linked = let e = ap (sum_by (links_of k)) all in omega (arith, e);
      frames = took_same k 0 (standing k r.books) (standing k r.books ++ []) (devices_of r) all;
      roles = λ before stood. stood ∙ ap (roles_led k before) (sym all);
    }
