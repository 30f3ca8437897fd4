-- What a controller asks for by an exchange, and exchanges that are those asked for: all whole, or the last of them broken off.
use Rattle.std.specs.Prelude.{◌≡◌, ℕ, zero, suc, Bool, true, false, List, [], ◌∷◌, ◌++◌, Option, Some, None}
use Rattle.il_frames.specs.Frames.{byte_of}
use Rattle.il_frames.specs.declared.frame.Frame.{Frame}
use Rattle.il_ports.specs.Media.{MediumView}
use Rattle.loop_model.specs.Exchanges.{Answer, NotTaken, ToItsEnd, Stopped, Exchange, Command, Address, Send, Receive, Identify, Start, Piece, Whole, Cut, bytes_of}
use Rattle.il_ring.specs.Rings.{RingView}
use Rattle.il_record.specs.Came.{CameUnits}

-- the bytes that a party told, and whether the controller stopped it after them
pub record Told : Type 0 where
  pub party : ℕ
  pub bytes : List ℕ
  pub stopped : Bool

-- nothing, where the start message came back
abbrev pub told_of : Answer → Option Told
told_of NotTaken = None
told_of (ToItsEnd p ds) = Some (record { party = p; bytes = bytes_of ds; stopped = false })
told_of (Stopped p ds last) = Some (record { party = p; bytes = bytes_of ds ++ byte_of last.sent ∷ []; stopped = true })

-- All devices obey a command, or take their addresses; the device of an address hears bytes, after a DDL of a number where one is
-- given; a start message asks it to tell something, after a DDT, and this is told; all devices set their bits in an identify frame,
-- which comes back as this one.
pub data Ask : Type 0 where
  AskCommand : Frame → Ask
  AskAddresses : Ask
  AskHear : ℕ → Option ℕ → List ℕ → Ask
  AskTell : ℕ → Option ℕ → Start → Option Told → Ask
  AskIdentify : Frame → Ask

-- what an exchange asked for
abbrev pub ask_of : Exchange → Ask
ask_of (Command f) = AskCommand f
ask_of (Address devices) = AskAddresses
ask_of (Send a number ds) = AskHear a number (bytes_of ds)
ask_of (Receive a number start answer) = AskTell a number start (told_of answer)
ask_of (Identify f) = AskIdentify f

-- Of an exchange that broke off: the first asks for as much as the second, or has the device hear only the first ones of its bytes.
-- What is told does not count.
abbrev pub IsFirstOf : Ask → Ask → Type 0
IsFirstOf (AskHear a number bytes) ask = (more : List ℕ) × (ask ≡ AskHear a number (bytes ++ more))
IsFirstOf (AskCommand f) ask = ask ≡ AskCommand f
IsFirstOf AskAddresses ask = ask ≡ AskAddresses
IsFirstOf (AskTell a number start told) ask = (other : Option Told) × (ask ≡ AskTell a number start other)
IsFirstOf (AskIdentify f) ask = (g : Frame) × (ask ≡ AskIdentify g)

-- Each exchange is what was asked for in its place. All are whole and nothing else was asked for; or the last is broken off.
abbrev pub Asked : List Ask → List Piece → Bool → Type 0
Asked [] [] true = Unit {0}
Asked [] [] false = ⊥
Asked [] (p ∷ pieces) whole = ⊥
Asked (ask ∷ asks) [] whole = ⊥
Asked (ask ∷ asks) (Whole x ∷ pieces) whole = (ask_of x ≡ ask) × Asked asks pieces whole
Asked (ask ∷ asks) (Cut x n b ∷ []) true = ⊥
Asked (ask ∷ asks) (Cut x n b ∷ []) false = IsFirstOf (ask_of x) ask
Asked (ask ∷ asks) (Cut x n b ∷ p ∷ pieces) whole = ⊥

-- what is asked for by address 1, then by address 2, up to address n
abbrev pub up_to : (ℕ → List Ask) → ℕ → List Ask
up_to asks zero = []
up_to asks (suc n) = up_to asks n ++ asks (suc n)

-- The ring r became s by what was asked for, whole or broken off, and no exchange of it moved a record.
pub record CameAsked {M : Type 0} (view : M → MediumView) (whole : Bool) (asks : List Ask) (r s : RingView M) : Type 0 where
  pub units : CameUnits view whole [] r s
  pub asked : Asked asks units.came.pieces whole
