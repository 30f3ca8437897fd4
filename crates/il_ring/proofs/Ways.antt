-- Distances and ways on a ring.
use Rattle.std.proofs.Common.{◌≡◌, ◌<◌, ◌≤◌, ◌+◌, ◌⊎◌, ℕ, cond, arith}
use Rattle.std.specs.Prelude.{nat_lt, nat_le, Some}
use Rattle.std.proofs.lemmas.Bool.Decides.{nat_tests}
use Rattle.loop_model.specs.Reach.{distance, held_links, held_passes}
use Rattle.il_ring.specs.Ways.{way, come_to}

-- over a link to a party that is not the source
pub way-next : (k source j : ℕ) → (source ≤ j) ⊎ ((j + 1 < source) × (source ≤ k)) → way k source (j + 1) ≡ way k source j + 1
way-next k source j at = grind (arith, nat_tests)

-- over the link to any party
pub way-distance : (k source j : ℕ) → source ≤ k → j < k → way k source j + 1 ≡ distance k source (j + 1)
way-distance k source j on within = grind (arith, nat_tests)

-- over the last link
pub way-home : (k source : ℕ) → source ≤ k → way k source k + 1 ≡ distance k source 0
way-home k source on = grind (arith, nat_tests)

-- at its source a frame has crossed no link
pub way-self : (k source : ℕ) → way k source source ≡ 0
way-self k source = grind (arith, nat_tests)

-- ---- which parties it has come to

-- a frame comes to the next party, and to no other
pub come-other : (k party source j : ℕ) → 1 ≤ party → party ≤ k → (party ≡ j + 1 → ⊥) → j < k → (source ≤ j) ⊎ ((j + 1 < source) × (source ≤ k)) → come_to k party source (j + 1) ≡ come_to k party source j
come-other k party source j some within other on at = grind (arith, nat_tests)

pub come-next : (k source j : ℕ) → j < k → (source ≤ j) ⊎ ((j + 1 < source) × (source ≤ k)) → (come_to k (j + 1) source (j + 1) ≡ 1) × (come_to k (j + 1) source j ≡ 0)
come-next k source j on at = (grind (arith, nat_tests), grind (arith, nat_tests))

-- to none after itself
pub come-self : (k party source : ℕ) → 1 ≤ party → party ≤ k → source ≤ k → come_to k party source source ≡ 0
come-self k party source some within on = grind (arith, nat_tests)

-- ---- entries

-- a frame that ended at the next party came to it, and to those to which it had come
pub ended-other : (k party source j : ℕ) → 1 ≤ party → party ≤ k → (party ≡ j + 1 → ⊥) → j < k → source ≤ k →
    cond (nat_le (distance k source party) (distance k source (j + 1))) 1 0 ≡ come_to k party source j
ended-other k party source j some within other on there = grind (arith, nat_tests)

pub back-other : (k party j : ℕ) → 1 ≤ party → party ≤ k → (party ≡ j + 1 → ⊥) → j < k → come_to k party (j + 1) j ≡ 1
back-other k party j some within other on = grind (arith, nat_tests)

-- a frame that was lost before a party came to those to which it had come
pub lost-to : (k party source j : ℕ) → 1 ≤ party → party ≤ k → j < k → source ≤ k →
    cond (nat_lt (distance k source party) (distance k source (j + 1))) 1 0 ≡ come_to k party source j
lost-to k party source j some within on there = grind (arith, nat_tests)

-- over the last link the frame comes to the host
pub home-to : (k party source : ℕ) → 1 ≤ party → party ≤ k → source ≤ k →
    (cond (nat_le (distance k source party) (distance k source 0)) 1 0 ≡ come_to k party source k) × (cond (nat_lt (distance k source party) (distance k source 0)) 1 0 ≡ come_to k party source k)
home-to k party source some within there = (grind (arith, nat_tests), grind (arith, nat_tests))

pub back-home : (k party : ℕ) → 1 ≤ party → party ≤ k → come_to k party 0 k ≡ 1
back-home k party some within = grind (arith, nat_tests)

-- to none to which its way has not led yet
pub come-before : (k source j : ℕ) → j < k → source ≤ k → come_to k (j + 1) source j ≡ 0
come-before k source j on there = grind (arith, nat_tests)

-- ---- held frames

-- a frame that is at the host has crossed these links
pub home-held : (k source : ℕ) → 1 ≤ source → source ≤ k → way k source k + 1 ≡ held_links k (Some source)
home-held k source some on = grind (arith, nat_tests)

-- and come to the devices after its source
pub come-held : (k party source : ℕ) → 1 ≤ party → party ≤ k → 1 ≤ source → source ≤ k → come_to k party source k ≡ held_passes party (Some source)
come-held k party source some within from on = grind (arith, nat_tests)

-- so it stands as it goes on from the host
pub start-held : (k source : ℕ) → 1 ≤ source → source ≤ k → way k source 0 ≡ held_links k (Some source)
start-held k source some on = grind (arith, nat_tests)

pub start-come : (k party source : ℕ) → 1 ≤ party → party ≤ k → 1 ≤ source → source ≤ k → come_to k party source 0 ≡ held_passes party (Some source)
start-come k party source some within from on = grind (arith, nat_tests)

pub start-host : (k party : ℕ) → 1 ≤ party → party ≤ k → come_to k party 0 0 ≡ 0
start-host k party some within = grind (arith, nat_tests)
