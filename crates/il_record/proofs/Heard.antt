-- Which devices heard nothing: all but the one that was told to listen.
use Rattle.std.proofs.Common.{◌≡◌, ◌∙◌, ◌+◌, ℕ, zero, suc, Bool, true, false, List, [], ◌∷◌, refl, ap}
use Rattle.std.specs.Prelude.{if◌then◌else◌}
use Rattle.std.proofs.lemmas.Bool.{ne_eqb}
use Rattle.il_device.specs.State.{DeviceState}
use Rattle.il_device.specs.declared.roles.Roles.{Roles}
use Rattle.il_ring.specs.Lists.{Each, First}
use Rattle.il_ring.specs.Outcomes.{HearsNothing, HearsByte, HearsAny}
use Rattle.il_control.specs.Calls.{IsTold}
use Rattle.il_control.proofs.Calls.{hears_then}
use Rattle.il_record.specs.Came.{OthersUnheard}

same_device : (d e : DeviceState) → e ≡ d → HearsNothing d e
same_device d e is = record {
  heard = ap (λ (d : DeviceState). d.heard) is;
  heard_count = ap (λ (d : DeviceState). d.heard_count) is;
  room = ap (λ (d : DeviceState). d.room) is;
  accessory = ap (λ (d : DeviceState). d.accessory) is;
}

pub others_same : (a k : ℕ) (ds : List DeviceState) → OthersUnheard a k ds ds
others_same a k [] = tt
others_same a k (d ∷ ds) = ((λ other. same_device d d refl), others_same a (k + 1) ds)

-- where no device heard anything, no other did
pub nothing_heard : (a k j : ℕ) (ds es : List DeviceState) → First HearsNothing j ds es → OthersUnheard a k ds es
nothing_heard a k j [] [] first = tt
nothing_heard a k zero (d ∷ ds) (e ∷ es) first = ((λ other. same_device d e first.0), nothing_heard a (k + 1) 0 ds es first.1)
nothing_heard a k (suc j) (d ∷ ds) (e ∷ es) first = ((λ other. first.0), nothing_heard a (k + 1) j ds es first.1)
nothing_heard a k j _ _ first = absurd first

pub others_then : (a k : ℕ) (cs ds es : List DeviceState) → OthersUnheard a k cs ds → OthersUnheard a k ds es → OthersUnheard a k cs es
others_then a k [] [] [] first more = tt
others_then a k (c ∷ cs) (d ∷ ds) (e ∷ es) first more = ((λ other. hears_then c d e (first.0 other) (more.0 other)), others_then a (k + 1) cs ds es first.1 more.1)
others_then a k [] (d ∷ ds) es first more = absurd first
others_then a k (c ∷ cs) [] es first more = absurd first
others_then a k _ _ _ first more = absurd more

-- ---- a byte

not_told : {A : Type 0} (b : Bool) (x y : A) → b ≡ false → (if b then x else y) ≡ y
not_told true x y is = cc
not_told false x y is = refl

pub deaf : (byte : ℕ) (d e : DeviceState) → d.roles.listens ≡ false → HearsByte byte d e → HearsNothing d e
deaf byte d e none hears = record {
  heard = hears.heard ∙ not_told d.roles.listens _ _ none;
  heard_count = hears.heard_count ∙ not_told d.roles.listens _ _ none;
  room = hears.room;
  accessory = hears.accessory;
}

pub others_deaf : (byte a k j : ℕ) (ds es : List DeviceState) → Each (IsTold a) k ds → First (HearsByte byte) j ds es → OthersUnheard a k ds es
others_deaf byte a k j [] [] told first = tt
others_deaf byte a k zero (d ∷ ds) (e ∷ es) told first = ((λ other. same_device d e first.0), others_deaf byte a (k + 1) 0 ds es told.1 first.1)
others_deaf byte a k (suc j) (d ∷ ds) (e ∷ es) told first = ((λ other. deaf byte d e (told.0 ∙ ne_eqb k a other) first.0), others_deaf byte a (k + 1) j ds es told.1 first.1)
others_deaf byte a k j _ _ told first = absurd first

-- and the same where some byte came to some of them
pub others_deaf_to_any : (a k j : ℕ) (ds es : List DeviceState) → Each (IsTold a) k ds → First HearsAny j ds es → OthersUnheard a k ds es
others_deaf_to_any a k j [] [] told first = tt
others_deaf_to_any a k zero (d ∷ ds) (e ∷ es) told first = ((λ other. same_device d e first.0), others_deaf_to_any a (k + 1) 0 ds es told.1 first.1)
others_deaf_to_any a k (suc j) (d ∷ ds) (e ∷ es) told first = ((λ other. deaf first.0.0 d e (told.0 ∙ ne_eqb k a other) first.0.1), others_deaf_to_any a (k + 1) j ds es told.1 first.1)
others_deaf_to_any a k j _ _ told first = absurd first

-- they listen on as they were told
pub told_on : (byte a k j : ℕ) (ds es : List DeviceState) → Each (IsTold a) k ds → First (HearsByte byte) j ds es → Each (IsTold a) k es
told_on byte a k j [] [] told first = tt
told_on byte a k zero (d ∷ ds) (e ∷ es) told first = (ap (λ (d : DeviceState). d.roles.listens) first.0 ∙ told.0, told_on byte a (k + 1) 0 ds es told.1 first.1)
told_on byte a k (suc j) (d ∷ ds) (e ∷ es) told first = (ap (λ (r : Roles). r.listens) first.0.roles ∙ told.0, told_on byte a (k + 1) j ds es told.1 first.1)
told_on byte a k j _ _ told first = absurd first
