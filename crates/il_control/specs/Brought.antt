-- Which frames the drive took of the entries that a call added, in order.
use Rattle.std.specs.Prelude.{◌≡◌, ◌⊎◌, ◌||◌, ◌==◌, nat_le, ℕ, zero, suc, Bool, true, false, List, [], ◌∷◌, Option, Some, None}
use Rattle.il_frames.specs.declared.frame.Frame.{Frame}
use Rattle.il_frames.specs.declared.entry.Entry.{Entry}
use Rattle.il_frames.specs.Frames.{is_data, with_service}
use Rattle.il_frames.specs.Messages.{message_of}
use Rattle.il_frames.specs.NamedFrames.{aad, ddl, rfc}
use Rattle.loop_model.specs.Exchanges.{Echo}
use Rattle.loop_model.specs.Reach.{brings_to}
use Rattle.il_ring.specs.Journeys.{is_exact, is_identify}
pub use Rattle.il_ring.specs.Turned.{is_auto_address}

-- How a frame that was sent so comes to party q if no fault acts on it: a data or end frame with any service bit, AAD 1
-- with the number of the party, an identify frame with any bits, and any other as it was sent.
pub record ComesAs (q : ℕ) (f g : Frame) : Type 0 where
  pub data_frame : is_data f ≡ true → (is_data g ≡ true) × (with_service g ≡ with_service f)
  pub address : f ≡ aad 1 → g ≡ aad q
  pub poll : is_identify f ≡ true → is_identify g ≡ true
  pub other : is_exact (message_of f) ≡ true → is_auto_address (message_of f) ≡ false → g ≡ f

-- the same if a fault may have changed the byte of a data or end frame
pub record MayComeAs (q : ℕ) (f g : Frame) : Type 0 where
  pub data_frame : is_data f ≡ true → is_data g ≡ true
  pub address : f ≡ aad 1 → g ≡ aad q
  pub poll : is_identify f ≡ true → is_identify g ≡ true
  pub other : is_exact (message_of f) ≡ true → is_auto_address (message_of f) ≡ false → g ≡ f

-- with or without a frame
abbrev pub BroughtIf : Bool → (Frame → Type 0) → (List Frame → Type 0) → List Frame → Type 0
BroughtIf false here rest gs = rest gs
BroughtIf true here rest [] = ⊥
BroughtIf true here rest (g ∷ gs) = here g × rest gs

-- on a loop of k devices, the frames that the entries brought to party q came to it so, in the order of the entries
abbrev pub Brought : ℕ → ℕ → List Entry → List Frame → Type 0
Brought k q [] gs = gs ≡ []
Brought k q (e ∷ es) gs = BroughtIf (brings_to k q e) (ComesAs q e.frame) (Brought k q es) gs

-- the first n entries did, and of the next at most its frame came, altered or not
abbrev pub CutBrought : ℕ → ℕ → List Entry → ℕ → List Frame → Type 0
CutBrought k q [] n gs = gs ≡ []
CutBrought k q (e ∷ es) zero gs = (gs ≡ []) ⊎ ((g : Frame) × MayComeAs q e.frame g × (gs ≡ g ∷ []))
CutBrought k q (e ∷ es) (suc n) gs = BroughtIf (brings_to k q e) (ComesAs q e.frame) (CutBrought k q es n) gs

-- The entry is the host's, or of a party that is the drive or comes after it: its frame came to the drive before the
-- entry was noted.
abbrev pub is_from_here : ℕ → Entry → Bool
is_from_here q e = (e.source == 0) || nat_le q e.source

-- ---- the frames of a send

-- the frames of the command of a number, if one is given
abbrev pub numbered_frames : Option ℕ → List Frame
numbered_frames None = []
numbered_frames (Some n) = ddl n ∷ rfc ∷ []

-- for each of them a data or end frame came, the same as was sent apart from the service bit
abbrev pub AllCome : List Echo → List Frame → Type 0
AllCome [] [] = Unit {0}
AllCome (d ∷ ds) (g ∷ gs) = ((is_data g ≡ true) × (with_service g ≡ with_service d.sent)) × AllCome ds gs
AllCome [] (g ∷ gs) = ⊥
AllCome (d ∷ ds) [] = ⊥
