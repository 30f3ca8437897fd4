-- Replies, and the last lines of their texts.
use Rattle.std.specs.Prelude.{ℕ, Bool, true, false, List, [], ◌∷◌, ◌++◌, codes, decimal}
use Rattle.lif_model.specs.declared.refusal.Refusal.{Refusal}
use Rattle.lif_model.specs.declared.refusal.Refusal.TheVariants as refusal
use Rattle.il_script.specs.declared.command.LineFault.{LineFault}
use Rattle.il_script.specs.declared.command.LineFault.TheVariants as fault
use Rattle.il_script.specs.declared.reply.Code.{Code}
use Rattle.il_script.specs.declared.reply.Code.TheVariants as code
use Rattle.il_script.specs.declared.reply.Reply.{Reply}
use Rattle.il_script.specs.declared.reply.Reply.TheVariants as reply

-- a line of text
abbrev pub text_line : List ℕ → List ℕ
text_line text = text ++ 10 ∷ []

-- a part of a line that follows another
abbrev pub next : List ℕ → List ℕ
next part = 32 ∷ part

abbrev pub code_number : Code → ℕ
code_number code.BadLine = 1
code_number code.LineTooLong = 2
code_number code.NotLif = 3
code_number code.NoFile = 4
code_number code.Exists = 5
code_number code.NoSlot = 6
code_number code.NoRoom = 7
code_number code.NoRedo = 8
code_number code.BadName = 9
code_number code.InUse = 10
code_number code.Protected = 11
code_number code.NoPrinter = 12
code_number code.BatchTooLarge = 13
code_number code.NeedsUpgrade = 14
code_number code.OutOfOrder = 15
code_number code.NotText = 16
code_number code.NoTaker = 17

abbrev pub code_name : Code → List ℕ
code_name code.BadLine = codes "BadLine"
code_name code.LineTooLong = codes "LineTooLong"
code_name code.NotLif = codes "NotLif"
code_name code.NoFile = codes "NoFile"
code_name code.Exists = codes "Exists"
code_name code.NoSlot = codes "NoSlot"
code_name code.NoRoom = codes "NoRoom"
code_name code.NoRedo = codes "NoRedo"
code_name code.BadName = codes "BadName"
code_name code.InUse = codes "InUse"
code_name code.Protected = codes "Protected"
code_name code.NoPrinter = codes "NoPrinter"
code_name code.BatchTooLarge = codes "BatchTooLarge"
code_name code.NeedsUpgrade = codes "NeedsUpgrade"
code_name code.OutOfOrder = codes "OutOfOrder"
code_name code.NotText = codes "NotText"
code_name code.NoTaker = codes "NoTaker"

-- a refusal, by its number and name
abbrev pub error_line : Code → List ℕ
error_line c = text_line (codes "error" ++ next (decimal (code_number c)) ++ next (code_name c))

-- the code of a line that is no command
abbrev pub fault_code : LineFault → Code
fault_code fault.BadLine = code.BadLine
fault_code fault.BadName = code.BadName

-- the code of a refusal has its name
abbrev pub code_of : Refusal → Code
code_of refusal.NotLif = code.NotLif
code_of refusal.NoFile = code.NoFile
code_of refusal.Exists = code.Exists
code_of refusal.NoSlot = code.NoSlot
code_of refusal.NoRoom = code.NoRoom
code_of refusal.NoRedo = code.NoRedo
code_of refusal.InUse = code.InUse
code_of refusal.Protected = code.Protected
code_of refusal.NeedsUpgrade = code.NeedsUpgrade
code_of refusal.OutOfOrder = code.OutOfOrder

-- the last line of a reply's text
abbrev pub reply_line : Reply → List ℕ
reply_line reply.Ok = text_line (codes "ok")
reply_line (reply.No c) = error_line c
reply_line reply.FaultFrame = text_line (codes "fault frame")
reply_line reply.FaultMedium = text_line (codes "fault medium")

abbrev pub is_ok : Reply → Bool
is_ok reply.Ok = true
is_ok _ = false
