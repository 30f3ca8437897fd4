-- Worked examples, computed by the checker.
use Rattle.std.proofs.Common.{◌≡◌, ℕ, List, ◌++◌, is_some, [], ◌∷◌, Some, None, true, false, refl, codes}
use Rattle.clap.proofs.OnLiterals.{clap_on_literals}
use Rattle.hex.proofs.OnLiterals.{hex_on_literals}
use Rattle.il_ring.specs.declared.plan.PlanFault.TheVariants.{Lose, Alter}
use Rattle.il_words.specs.declared.faults.FaultList.TheVariants.{Losses, Alterations}
use Rattle.il_words.specs.Halves.{halves_of}
use Rattle.il_words.specs.Generating.{seed_in, count_in, script_in}
use Rattle.il_words.specs.Faults.{crossing_in, change_in, list_in}
use Rattle.il_words.specs.Planning.{plan_by}
use Rattle.il_words.specs.Simple.{il_app}
use Rattle.il_words.specs.Asked.{Asked, words_in}

-- ---- values

-- the first colon parts them
halves : (halves_of (codes "30:01") ≡ Some (codes "30", codes "01")) × (halves_of (codes "1:8:8") ≡ Some (codes "1", codes "8:8")) × (halves_of (codes "30") ≡ None)
halves = (refl, refl, refl)

crossings : (crossing_in (codes "6") ≡ Some 6) × (crossing_in (codes "999999999999999999") ≡ Some 999999999999999999)
crossings = (refl, refl)

no_crossings : (crossing_in (codes "0") ≡ None) × (crossing_in (codes "05") ≡ None) × (crossing_in (codes "1000000000000000000") ≡ None) × (crossing_in [] ≡ None)
no_crossings = (refl, refl, refl, refl)

changes : (change_in (codes "01") ≡ Some (Alter 1)) × (change_in (codes "fF") ≡ Some (Alter 255)) × (change_in (codes "00") ≡ None) × (change_in (codes "1") ≡ None)
unfolding hex_on_literals
changes = (refl, refl, refl, refl)

seeds : (seed_in (codes "0") ≡ Some 0) × (seed_in (codes "2147483647") ≡ Some 2147483647) × (seed_in (codes "00") ≡ None) × (seed_in (codes "2147483648") ≡ None)
seeds = (refl, refl, refl, refl)

counts : (count_in (codes "1") ≡ Some 1) × (count_in (codes "10000") ≡ Some 10000) × (count_in (codes "0") ≡ None) × (count_in (codes "10001") ≡ None)
counts = (refl, refl, refl, refl)

scripts : (script_in (codes "1:8") ≡ Some (1, 8)) × (script_in (codes "01:8") ≡ None) × (script_in (codes "1:0") ≡ None) × (script_in (codes "1:8:8") ≡ None)
scripts = (refl, refl, refl, refl)

-- ---- lists and plans

losses : list_in Losses (codes "6,5") ≡ Some (record { hop = 6; fault = Lose } ∷ record { hop = 5; fault = Lose } ∷ [])
losses = refl

no_losses : (list_in Losses [] ≡ None) × (list_in Losses (codes "5,") ≡ None) × (list_in Losses (codes "5:01") ≡ None)
no_losses = (refl, refl, refl)

alterations : list_in Alterations (codes "30:01,34:fF") ≡ Some (record { hop = 30; fault = Alter 1 } ∷ record { hop = 34; fault = Alter 255 } ∷ [])
unfolding hex_on_literals
alterations = refl

no_alterations : (list_in Alterations (codes "30:00") ≡ None) × (list_in Alterations (codes "30") ≡ None)
unfolding hex_on_literals
no_alterations = (refl, refl)

-- 64 items, and one more
abbrev digits_of : List ℕ
digits_of = codes "1,1,1,1,1,1,1,1,1,1,1,1,1,1,1,1,1,1,1,1,1,1,1,1,1,1,1,1,1,1,1,1,1,1,1,1,1,1,1,1,1,1,1,1,1,1,1,1,1,1,1,1,1,1,1,1,1,1,1,1,1,1,1,1"

sixty_four : is_some (list_in Losses digits_of) ≡ true
sixty_four = refl

sixty_five : list_in Losses (digits_of ++ codes ",1") ≡ None
sixty_five = refl

-- the plan rises, whatever the order of the words
rising : plan_by (Some (codes "6")) (Some (codes "30:01,5:10")) ≡ Some (record { hop = 5; fault = Alter 16 } ∷ record { hop = 6; fault = Lose } ∷ record { hop = 30; fault = Alter 1 } ∷ [])
unfolding hex_on_literals
rising = refl

no_faults : plan_by None None ≡ Some []
no_faults = refl

-- a crossing is named once, in one list and in the two together
twice : (plan_by (Some (codes "5,6,5")) None ≡ None) × (plan_by (Some (codes "5")) (Some (codes "5:01")) ≡ None)
unfolding hex_on_literals
twice = (refl, refl)

-- ---- words

plain : words_in (codes "TAPE" ∷ [])
    ≡ Some (record { image = codes "TAPE"; made = None; plan = []; quiet = false; guest = false; generated = None })
unfolding il_app clap_on_literals
plain = refl

no_image : words_in (codes "--quiet" ∷ []) ≡ None
unfolding il_app clap_on_literals
no_image = refl

whole : words_in (codes "--new" ∷ codes "--lose" ∷ codes "6" ∷ codes "--generate" ∷ codes "1:8" ∷ codes "TAPE" ∷ [])
    ≡ Some (record {
      image = codes "TAPE";
      made = Some 512;
      plan = record { hop = 6; fault = Lose } ∷ [];
      quiet = false;
      guest = false;
      generated = Some (1, 8);
    })
unfolding il_app clap_on_literals
whole = refl

abbrev with_guest : Asked
with_guest = record { image = codes "TAPE"; made = None; plan = []; quiet = false; guest = true; generated = None }

-- a second controller, wherever its word stands
guests : (words_in (codes "--guest" ∷ codes "TAPE" ∷ []) ≡ Some with_guest)
    × (words_in (codes "TAPE" ∷ codes "--guest" ∷ []) ≡ Some with_guest)
unfolding il_app clap_on_literals
guests = (refl, refl)

-- not twice, not with a value, and not alone
no_guests : (words_in (codes "--guest" ∷ codes "--guest" ∷ codes "TAPE" ∷ []) ≡ None)
    × (words_in (codes "--guest=2" ∷ codes "TAPE" ∷ []) ≡ None) × (words_in (codes "--guest" ∷ []) ≡ None)
unfolding il_app clap_on_literals
no_guests = (refl, refl, refl)

-- a tape and a disc together, an alteration by 0, and a question for help
refused : (words_in (codes "--new" ∷ codes "--new-disc" ∷ codes "TAPE" ∷ []) ≡ None) × (words_in (codes "--alter" ∷ codes "30:00" ∷ codes "TAPE" ∷ []) ≡ None)
    × (words_in (codes "--help" ∷ []) ≡ None)
unfolding il_app clap_on_literals hex_on_literals
refused = (refl, refl, refl)
