-- What the first printer of a list has on its paper.
use Rattle.std.proofs.Common.{◌≡◌, Bool, true, false, List, [], ◌∷◌, ◌++◌, map, refl, ap, ◌∙◌}
use Rattle.std.specs.Prelude.{Option, Some, None, option_map, find, if◌then◌else◌}
use Rattle.std.specs.Option.{option_or}
use Rattle.std.proofs.lemmas.List.Folds.{find-append}
use Rattle.il_device.specs.State.{DeviceState}
use Rattle.il_ring.specs.Rings.{has_id, printer_id, paper_of}

map-either : {A B : Type 0} (f : A → B) (r s : Option A) → option_map f (option_or r s) ≡ option_or (option_map f r) (option_map f s)
map-either f None s = refl
map-either f (Some a) s = refl

-- of two lists one after the other
pub paper_of-append : (ds es : List DeviceState) → paper_of (ds ++ es) ≡ option_or (paper_of ds) (paper_of es)
paper_of-append ds es =
    ap (option_map (λ (d : DeviceState). (d.heard, d.heard_count))) (find-append (λ d. has_id printer_id d.accessory) ds es)
    ∙ map-either (λ (d : DeviceState). (d.heard, d.heard_count)) (find (λ d. has_id printer_id d.accessory) ds) (find (λ d. has_id printer_id d.accessory) es)

found : {A B C : Type 0} (test : Bool) (f : A → C) (g : B → C) (a : A) (b : B) (r : Option A) (s : Option B) → f a ≡ g b → option_map f r ≡ option_map g s → option_map f (if test then Some a else r) ≡ option_map g (if test then Some b else s)
found true f g a b r s here rest = ap Some here
found false f g a b r s here rest = rest

-- of things that have states
pub paper_of-map : {D : Type 0} (state : D → DeviceState) (ds : List D) → option_map (λ d. ((state d).heard, (state d).heard_count)) (find (λ d. has_id printer_id (state d).accessory) ds) ≡ paper_of (map state ds)
paper_of-map state [] = refl
paper_of-map state (d ∷ ds) =
    found (has_id printer_id (state d).accessory) (λ d. ((state d).heard, (state d).heard_count)) (λ (d : DeviceState). (d.heard, d.heard_count)) d (state d)
    (find (λ d. has_id printer_id (state d).accessory) ds) (find (λ d. has_id printer_id d.accessory) (map state ds)) refl (paper_of-map state ds)

-- the thing that is found
pub paper_of-found : {D : Type 0} (state : D → DeviceState) (ds : List D) (first : Option D) → first ≡ find (λ d. has_id printer_id (state d).accessory) ds
    → option_map (λ d. ((state d).heard, (state d).heard_count)) first ≡ paper_of (map state ds)
paper_of-found state ds first is = ap (option_map (λ d. ((state d).heard, (state d).heard_count))) is ∙ paper_of-map state ds
