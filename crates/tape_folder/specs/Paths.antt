-- The path of a folder.
use Rattle.std.specs.Prelude.{◌≡◌, ◌==◌, ◌&&◌, nat_lt, ℕ, List, length, if◌then◌else◌, codes}
use Rattle.std.specs.Str.Pattern.{FindsCharSuffix, IsTrimEndMatches}

-- The path without the slashes at its end, which have the code 47. The path of the top folder has only slashes.
abbrev pub IsFolderPath : List ℕ → List ℕ → Type 0
IsFolderPath path folder = (front : List ℕ) × IsTrimEndMatches (FindsCharSuffix 47) path front × (folder ≡ (if (length front == 0) && nat_lt 0 (length path) then codes "/" else front))
