-- A small host for worked examples: a tape of twelve records, whose gate is record 8, in a drive with a printer after it.
use Rattle.std.proofs.Common.{◌≡◌, ◌++◌, ℕ, List, [], ◌∷◌, Some, None, ◌==◌, true, false, sym, ◌∙◌, ap, arith, codes, set}
use Rattle.std.specs.Str.{bytes_eq}
use Rattle.std.proofs.lemmas.Bool.Decides.{nat_tests}
use Rattle.std.proofs.lemmas.Slice.Eq.{bytes_eq-Decides}
use Rattle.std.specs.Prelude.{unwrap_or}
use Rattle.lif_model.specs.Tape.{Tape}
use Rattle.lif_model.specs.Volume.{is_foreign_gated}
use Rattle.lif_model.proofs.Examples as base
use Rattle.lif_model.proofs.VolumeExamples.{file, a_name}
use Rattle.il_device.specs.State.{DeviceState, fresh}
use Rattle.host_model.specs.HostStates.{HostState, fresh_host}

-- with a file A of one record, which holds the bytes AB
abbrev pub a_tape : Tape
a_tape = set (base.tape_with (file a_name 4 1 ++ base.redo_entry ++ base.end_entry)) 4 (base.filled (codes "AB"))

abbrev pub printer : DeviceState
printer = fresh (Some 32) 8192

-- a device without an accessory ID
abbrev pub quiet : DeviceState
quiet = fresh None 0

-- over this tape, with these devices after the drive
abbrev pub host_with : Tape → List DeviceState → HostState
host_with tape after = fresh_host (Some tape) 12 0 [] after None

-- with a printer, over a tape of so many records
abbrev pub host_on : Tape → ℕ → HostState
host_on tape n = fresh_host (Some tape) n 0 [] (printer ∷ []) None

abbrev pub empty_host : HostState
empty_host = host_on base.formatted 12

abbrev pub a_host : HostState
a_host = host_with a_tape (printer ∷ [])

-- a tape that is not foreign-gated is none that is
pub not_foreign : (x t : Tape) → is_foreign_gated x ≡ false → Some x ≡ Some t → is_foreign_gated t ≡ true → ⊥
not_foreign x t own same foreign =
    let both : true ≡ false = sym foreign ∙ (ap (λ o. is_foreign_gated (unwrap_or o [])) (sym same) ∙ own) in cc

-- two texts that compare as different are not equal
pub texts_differ : (a b : List ℕ) → bytes_eq a b ≡ false → a ≡ b → ⊥
texts_differ a b differ same = let both : true ≡ false = sym ((bytes_eq-Decides a b).1 same) ∙ differ in cc

pub false_is_not_true : false ≡ true → ⊥
false_is_not_true h = cc

-- nor two numbers
pub numbers_differ : (a b : ℕ) → (a == b) ≡ false → a ≡ b → ⊥
numbers_differ a b differ same =
    let self : (a == a) ≡ true = grind (arith, nat_tests) in
    let both : true ≡ false = sym self ∙ (ap (λ x. a == x) same ∙ differ) in cc
