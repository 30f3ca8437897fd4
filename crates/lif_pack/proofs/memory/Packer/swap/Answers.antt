use Rattle.std.proofs.Common.{◌≡◌, ◌∙◌, ℕ, zero, suc, List, [], ◌∷◌, Some, map, get_or, set, sym, ap}
use Rattle.std.specs.Prelude.{Option, slice_get, unwrap_or}
use Rattle.std.proofs.lemmas.List.{map-set}
use Rattle.lif_dir.specs.Entries.{slot_bytes}
use Rattle.lif_dir.specs.Tables.{Table}
use Rattle.lif_dir.specs.declared.entries.Slot.{Slot}
use Rattle.lif_pack.proofs.memory.Packer.swap.Goals as goal

-- the bytes of a slot that is there
bytes_there : (xs : List Slot) (k : ℕ) (x : Slot) → slice_get xs k ≡ Some x → slot_bytes x ≡ get_or (map slot_bytes xs) k []
bytes_there [] k x is = cc
bytes_there (y ∷ xs) zero x is = sym (ap (λ (o : Option Slot). slot_bytes (unwrap_or o x)) is)
bytes_there (y ∷ xs) (suc k) x is = bytes_there xs k x is

pub returns-clause-slots : goal.returns-clause-slots
returns-clause-slots c =
    let slots = c.args.self.now.slots.slots in
    let one = bytes_there slots c.args.one c.get-first.result.now c.get-first.ensures.slot in
    let other = bytes_there slots c.args.other c.get-second.result.now c.get-second.ensures.slot in
    ap (λ (t : Table). map slot_bytes t.slots) c.set-2.ensures ∙ map-set slot_bytes c.set.new.self.slots c.args.other c.get-first.result.now
    ∙ ap (λ (xs : List (List ℕ)). set xs c.args.other (slot_bytes c.get-first.result.now))
    (ap (λ (t : Table). map slot_bytes t.slots) c.set.ensures ∙ map-set slot_bytes slots c.args.one c.get-second.result.now)
    ∙ (λ i. set (set (map slot_bytes slots) c.args.one (other i)) c.args.other (one i))
