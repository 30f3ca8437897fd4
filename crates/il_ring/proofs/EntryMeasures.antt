-- How much an entry counts for on a ring whose last party is a second controller: for the links that its frame went over, and for the frames
-- that came to a party. Each is a measure of entries.
use Rattle.std.proofs.Common.{◌≡◌, ◌≤◌, ◌<◌, ◌+◌, inl, ℕ, cond, Option, Some, None, refl, sym, ap, ◌∙◌, arith}
use Rattle.std.specs.Prelude.{if◌then◌else◌, nat_le}
use Rattle.std.proofs.lemmas.Bool.{ne_eqb}
use Rattle.std.proofs.lemmas.Bool.Decides.{nat_tests}
use Rattle.il_frames.specs.declared.frame.Frame.{Frame}
use Rattle.il_frames.specs.declared.entry.Entry.{Entry}
use Rattle.il_frames.specs.declared.entry.Outcome.TheVariants as outcome
use Rattle.il_frames.specs.NamedFrames.{entry}
use Rattle.loop_model.specs.Reach.{distance, links_of, brings_to}
use Rattle.il_ring.specs.declared.flight.Flight.{Flight}
use Rattle.il_ring.specs.Flights.{sourced, lost_at, ended_at}
use Rattle.il_ring.specs.Ways.{way, on_way, come_to, brought}
use Rattle.il_ring.proofs.CountSteps.{ended_links, ended_brings, ended_here}
use Rattle.il_ring.proofs.Ways.{way-next, way-distance, way-self, way-home, come-other, come-next, come-self, come-before, lost-to, home-to, start-host}

-- ---- where a frame ends

pub at_host : (f : Flight) → 1 ≤ f.source → ended_at f 0 ≡ entry f.source f.sent (outcome.Taken 0)
at_host f some = ap (λ own. entry f.source f.sent (if own then outcome.Back f.now else outcome.Taken 0)) (ne_eqb f.source 0 (λ same. omega (arith, same, some)))

pub at_party : (k : ℕ) (f : Flight) → f.source < k → ended_at f k ≡ entry f.source f.sent (outcome.Taken k)
at_party k f within = ap (λ own. entry f.source f.sent (if own then outcome.Back f.now else outcome.Taken k)) (ne_eqb f.source k (λ same. omega (arith, same, within)))

-- ---- the measures

-- A measure of entries on a ring whose last party is j + 1: how much a frame counts for as it begins at the host, before the last party and
-- after it; and how much more an entry counts for that was lost on the way to that party, one that ended there, and one after the last link.
pub record IsMeasure (j : ℕ) (measure : Entry → ℕ) (first before after : Option Flight → ℕ) (lost here home : ℕ) : Type 0 where
  pub none_before : before None ≡ 0
  pub none_after : after None ≡ 0
  pub same : (f g : Flight) → g.source ≡ f.source → before (Some g) ≡ before (Some f)
  pub host_first : (f : Flight) → f.source ≡ 0 → first (Some f) ≡ 0
  pub at_first : (f : Flight) → 1 ≤ f.source → f.source ≤ j + 1 → measure (ended_at f 0) ≡ first (Some f)
  pub lost_there : (f : Flight) → f.source ≤ j + 1 → measure (lost_at f (j + 1)) ≡ before (Some f) + lost
  pub ended_there : (f : Flight) → f.source ≤ j + 1 → measure (ended_at f (j + 1)) ≡ before (Some f) + here
  pub own : (f : Frame) → after (Some (sourced (j + 1) f)) ≡ 0
  pub goes_on : (f : Flight) → f.source ≤ j → after (Some f) ≡ measure (ended_at f (j + 1))
  pub lost_home : (f : Flight) → f.source ≤ j + 1 → measure (lost_at f 0) ≡ after (Some f) + home
  pub ended_home : (f : Flight) → 1 ≤ f.source → f.source ≤ j + 1 → measure (ended_at f 0) ≡ after (Some f) + home

way-first : (k source : ℕ) → 1 ≤ source → source ≤ k → way k source 0 ≡ distance k source 0
way-first k source some on = grind (arith, nat_tests)

pub way-some : (k source : ℕ) → 1 ≤ source → source ≤ k → 1 ≤ way k source 0
way-some k source some on = grind (arith, nat_tests)

come-first : (k party source : ℕ) → 1 ≤ party → party ≤ k → 1 ≤ source → source ≤ k → cond (nat_le (distance k source party) (distance k source 0)) 1 0 ≡ come_to k party source 0
come-first k party source some within from on = grind (arith, nat_tests)

pub links_measure : (j : ℕ) → IsMeasure j (links_of (j + 1)) (on_way (j + 1) 0) (on_way (j + 1) j) (on_way (j + 1) (j + 1)) 1 1 1
links_measure j = record {
  none_before = refl;
  none_after = refl;
  same = λ f g is. ap (λ p. way (j + 1) p j) is;
  host_first = λ f host. ap (λ p. way (j + 1) p 0) host ∙ way-self (j + 1) 0;
  at_first = λ f some on. ended_links (j + 1) f.source 0 f.now ∙ sym (way-first (j + 1) f.source some on);
  lost_there = λ f on. sym (way-distance (j + 1) f.source j on (omega arith));
  ended_there = λ f on. ended_links (j + 1) f.source (j + 1) f.now ∙ sym (way-distance (j + 1) f.source j on (omega arith));
  own = λ f. way-self (j + 1) (j + 1);
  goes_on = λ f low.
      let next = way-next (j + 1) f.source j (inl low) in
      let far = way-distance (j + 1) f.source j (omega (arith, low)) (omega arith) in
      let ended = ended_links (j + 1) f.source (j + 1) f.now in
      next ∙ far ∙ sym ended;
  lost_home = λ f on. sym (way-home (j + 1) f.source on);
  ended_home = λ f some on. ended_links (j + 1) f.source 0 f.now ∙ sym (way-home (j + 1) f.source on);
}

-- the frames that came to a party before the last
home_came : (k q : ℕ) (f : Flight) (n : ℕ) → 1 ≤ f.source → cond (nat_le (distance k f.source q) (distance k f.source 0)) 1 0 ≡ n → cond (brings_to k q (ended_at f 0)) 1 0 ≡ n
home_came k q f n some is = ap {B = ℕ} (λ e. cond (brings_to k q e) 1 0) (at_host f some) ∙ is

pub came_measure : (j q : ℕ) → 1 ≤ q → q ≤ j → IsMeasure j (λ e. cond (brings_to (j + 1) q e) 1 0) (brought (j + 1) 0 q) (brought (j + 1) j q) (brought (j + 1) (j + 1) q) 0 0 0
came_measure j q some within =
    let most : q ≤ j + 1 = omega (arith, within) in
    let other : q ≡ j + 1 → ⊥ = λ is. omega (arith, is, within) in
    let low : j < j + 1 = omega arith in
    record {
      none_before = refl;
      none_after = refl;
      same = λ f g is. ap (λ p. come_to (j + 1) q p j) is;
      host_first = λ f host. ap (λ p. come_to (j + 1) q p 0) host ∙ start-host (j + 1) q some most;
      at_first = λ f from on. home_came (j + 1) q f (come_to (j + 1) q f.source 0) from (come-first (j + 1) q f.source some most from on);
      lost_there = λ f on. let is = lost-to (j + 1) q f.source j some most low on in omega (arith, is);
      ended_there = λ f on. let is = ended_brings (j + 1) q f.source j f.now some most other low on in omega (arith, is);
      own = λ f. come-self (j + 1) q (j + 1) some most (omega arith);
      goes_on = λ f after.
          come-other (j + 1) q f.source j some most other low (inl after)
          ∙ sym (ended_brings (j + 1) q f.source j f.now some most other low (omega (arith, after)));
      lost_home = λ f on. let is = (home-to (j + 1) q f.source some most on).1 in omega (arith, is);
      ended_home = λ f from on.
          let is = home_came (j + 1) q f (come_to (j + 1) q f.source (j + 1)) from (home-to (j + 1) q f.source some most on).0 in omega (arith, is);
    }

-- those that came to the last party
pub last_measure : (j : ℕ) → IsMeasure j (λ e. cond (brings_to (j + 1) (j + 1) e) 1 0) (brought (j + 1) 0 (j + 1)) (brought (j + 1) j (j + 1)) (brought (j + 1) (j + 1) (j + 1)) 0 1 0
last_measure j =
    let some : 1 ≤ j + 1 = omega arith in
    let most : j + 1 ≤ j + 1 = omega arith in
    let low : j < j + 1 = omega arith in
    record {
      none_before = refl;
      none_after = refl;
      same = λ f g is. ap (λ p. come_to (j + 1) (j + 1) p j) is;
      host_first = λ f host. ap (λ p. come_to (j + 1) (j + 1) p 0) host ∙ start-host (j + 1) (j + 1) some most;
      at_first = λ f from on. home_came (j + 1) (j + 1) f (come_to (j + 1) (j + 1) f.source 0) from (come-first (j + 1) (j + 1) f.source some most from on);
      lost_there = λ f on. let is = lost-to (j + 1) (j + 1) f.source j some most low on in omega (arith, is);
      ended_there = λ f on. let is = ended_here (j + 1) f.source j f.now in let none = come-before (j + 1) f.source j low on in omega (arith, is, none);
      own = λ f. come-self (j + 1) (j + 1) (j + 1) some most most;
      goes_on = λ f after.
          let came = (come-next (j + 1) f.source j low (inl after)).0 in
          let is = ended_here (j + 1) f.source j f.now in
          omega (arith, came, is);
      lost_home = λ f on. let is = (home-to (j + 1) (j + 1) f.source some most on).1 in omega (arith, is);
      ended_home = λ f from on.
          let is = home_came (j + 1) (j + 1) f (come_to (j + 1) (j + 1) f.source (j + 1)) from (home-to (j + 1) (j + 1) f.source some most on).0 in omega (arith, is);
    }
