-- What is lent to a job, such as drives and folders.
use Rattle.std.specs.Prelude.{◌≡◌, ◌≤◌, ◌+◌, ℕ, Bool, true, Result, Ok, Err}

-- what was given so far, and what came back
pub record Lending (T : Type 0) : Type 1 where
  -- how many were given, or fewer
  pub given : ℕ
  -- each one that was given is back
  pub all_back : Bool
  -- this one was given
  pub gave : T → Type 0
  -- this one came back
  pub took : T → Type 0

-- what was given stays given, and what came back stays back
pub record LendsOn {T : Type 0} (v w : Lending T) : Type 0 where
  pub gave : (x : T) → v.gave x → w.gave x
  pub took : (x : T) → v.took x → w.took x

-- this one was given
pub record Gives {T : Type 0} (v w : Lending T) (x : T) : Type 0 where
  pub goes_on : LendsOn v w
  pub few : w.given ≤ v.given + 1
  pub gave : w.gave x

-- none was given
pub record GivesNone {T : Type 0} (v w : Lending T) : Type 0 where
  pub goes_on : LendsOn v w
  pub few : w.given ≤ v.given
  pub back : v.all_back ≡ true → w.all_back ≡ true

-- one was given, or none
abbrev pub MayGive : {T E : Type 0} → (v w : Lending T) → Result T E → Type 0
MayGive v w (Ok x) = Gives v w x
MayGive v w (Err _) = GivesNone v w

-- this one came back, and so all are back
pub record ComesBack {T : Type 0} (v w : Lending T) (x : T) : Type 0 where
  pub goes_on : LendsOn v w
  pub few : w.given ≤ v.given
  pub back : w.all_back ≡ true
  pub took : w.took x

-- At most n were given, and all are back. (None is given before the one before it is back: the calls that give one
-- require that.)
pub record Uses {T : Type 0} (n : ℕ) (v w : Lending T) : Type 0 where
  pub goes_on : LendsOn v w
  pub few : w.given ≤ v.given + n
  pub back : w.all_back ≡ true

-- none was used
abbrev pub IsUnused : {T : Type 0} → (v w : Lending T) → Type 0
IsUnused v w = w.given ≤ v.given

-- what is lent without a record of it
abbrev pub unrecorded : {T : Type 0} → Lending T
unrecorded = record { given = 0; all_back = true; gave = λ x. Unit {0}; took = λ x. Unit {0} }
