-- How what is lent adds up.
use Rattle.std.proofs.Common.{◌≡◌, ◌≤◌, ◌+◌, ℕ, true, arith}
use Rattle.tape_drives.specs.Lending.{Lending, LendsOn, Uses}

module _ {T : Type 0} where
  pub lends_same : (v : Lending T) → LendsOn v v
  lends_same v = record { gave = λ x is. is; took = λ x is. is }

  pub lends_then : (u v w : Lending T) → LendsOn u v → LendsOn v w → LendsOn u w
  lends_then u v w first next = record { gave = λ x is. next.gave x (first.gave x is); took = λ x is. next.took x (first.took x is) }

  -- nothing was used yet
  pub uses_none : (v : Lending T) → v.all_back ≡ true → Uses 0 v v
  uses_none v back = record { goes_on = lends_same v; few = omega arith; back = back }

  pub uses_then : (n k : ℕ) (u v w : Lending T) → Uses n u v → Uses k v w → Uses (n + k) u w
  uses_then n k u v w first next = record {
    goes_on = lends_then u v w first.goes_on next.goes_on;
    few = omega (arith, first.few, next.few);
    back = next.back;
  }

  -- more could have been used
  pub uses_fewer : (n k : ℕ) → n ≤ k → (v w : Lending T) → Uses n v w → Uses k v w
  uses_fewer n k le v w used = record { goes_on = used.goes_on; few = omega (arith, le, used.few); back = used.back }
