-- What the tests of a targets record tell.
use Rattle.std.proofs.Common.{◌≡◌, ◌&&◌, ℕ, List, Bool, true, false, if◌then◌else◌, sym, ◌∙◌, ap}
use Rattle.std.specs.Str.{bytes_eq}
use Rattle.lif_model.specs.declared.version.Version.{Version}
use Rattle.lif_model.specs.declared.version.Version.TheVariants.{One, Two}
use Rattle.lif_model.specs.Redo.{targets_record, are_targets, named_by, is_valid, Targets, Invalid, Valid, targets_of}

module _ (n : ℕ) (bytes : List ℕ) where
  -- the tests of these targets, which are those that the record names
  abbrev pub tests : Version → List ℕ → Bool
  tests version ts = bytes_eq bytes (targets_record version ts) && are_targets version n ts

  pub tests_valid : (version : Version) (ts : List ℕ) → ts ≡ named_by version bytes → tests version ts ≡ is_valid version n bytes
  unfolding is_valid
  tests_valid version ts is = ap (tests version) is

  abbrev by_tests : Bool → Bool → Targets
  by_tests one two = if one then Valid One (named_by One bytes) else (if two then Valid Two (named_by Two bytes) else Invalid)

  pub reads_one : (ts : List ℕ) → ts ≡ named_by One bytes → tests One ts ≡ true → targets_of n bytes ≡ Valid One ts
  reads_one ts is on = ap (λ (b : Bool). by_tests b (is_valid Two n bytes)) (sym (tests_valid One ts is) ∙ on) ∙ ap (Valid One) (sym is)

  pub reads_two : (ts us : List ℕ) → ts ≡ named_by One bytes → tests One ts ≡ false → us ≡ named_by Two bytes → tests Two us ≡ true → targets_of n bytes ≡ Valid Two us
  reads_two ts us is off named on = (λ d. by_tests ((sym (tests_valid One ts is) ∙ off) d) ((sym (tests_valid Two us named) ∙ on) d)) ∙ ap (Valid Two) (sym named)

  pub reads_none : (ts us : List ℕ) → ts ≡ named_by One bytes → tests One ts ≡ false → us ≡ named_by Two bytes → tests Two us ≡ false → targets_of n bytes ≡ Invalid
  reads_none ts us is off named none = λ d. by_tests ((sym (tests_valid One ts is) ∙ off) d) ((sym (tests_valid Two us named) ∙ none) d)
