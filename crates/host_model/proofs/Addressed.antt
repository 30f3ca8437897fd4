-- The exchanges by which a loop is addressed are frames of the host alone.
use Rattle.std.proofs.Common.{◌≡◌, ◌∙◌, ◌++◌, ◌&&◌, ℕ, zero, suc, All, Bool, true, false, List, [], ◌∷◌, refl, flat_map}
use Rattle.std.specs.List.{list_all}
use Rattle.std.proofs.lemmas.Bool.{and_parts, and_from}
use Rattle.std.proofs.lemmas.List.Elements.{All-nil, All-cons, All-head, All-tail}
use Rattle.std.proofs.lemmas.List.Folds.{list_all-append}
use Rattle.il_frames.specs.declared.frame.Frame.{Frame}
use Rattle.il_frames.specs.declared.entry.Entry.{Entry}
use Rattle.il_frames.specs.NamedFrames.{aau, ifc}
use Rattle.loop_model.specs.Exchanges.{Exchange, Command, Address, Send, Receive, Identify, Break, FrameLost, HostAltered, TalkerAltered, Piece, Whole, Cut, break_entries, cut_at, entries_of, piece_entries}
use Rattle.il_ring.proofs.HostFronts.{is_from_host}
use Rattle.host_model.specs.LoopStates.{LoopState, device_count}
use Rattle.host_model.specs.Courses.{Due, addressed_first, addresses_due, is_commanding, is_numbering, keeps_to}

-- ---- one exchange

-- an exchange that passes is frames of the host alone
abbrev pub AsksNobody : Due → Type 0
AsksNobody test = (whole : Bool) (x : Exchange) → test whole x ≡ true → list_all is_from_host (entries_of 0 x) ≡ true

commanding_alone : (f : Frame) → AsksNobody (is_commanding f)
commanding_alone f whole (Command g) is = refl
commanding_alone f whole (Address devices) is = refl
commanding_alone f whole (Send a number echoes) is = cc
commanding_alone f whole (Receive a number start answer) is = cc
commanding_alone f whole (Identify g) is = cc

numbering_alone : (k : ℕ) → AsksNobody (is_numbering k)
numbering_alone k whole (Command g) is = cc
numbering_alone k whole (Address devices) is = refl
numbering_alone k whole (Send a number echoes) is = cc
numbering_alone k whole (Receive a number start answer) is = cc
numbering_alone k whole (Identify g) is = cc

-- and so it is where it broke off
broken_alone : (e : Entry) (b : Break) → is_from_host e ≡ true → list_all is_from_host (break_entries e b) ≡ true
broken_alone e (FrameLost q) host = and_from (is_from_host e) true host refl
broken_alone e (HostAltered f) host = and_from (is_from_host e) true host refl
broken_alone e (TalkerAltered f end) host = and_from (is_from_host e) (is_from_host e && true) host (and_from (is_from_host e) true host refl)

cut_alone : (log : List Entry) (n : ℕ) (b : Break) → list_all is_from_host log ≡ true → list_all is_from_host (cut_at log n b) ≡ true
cut_alone [] n b hosts = refl
cut_alone (e ∷ log) zero b hosts = broken_alone e b (and_parts (is_from_host e) (list_all is_from_host log) hosts).0
cut_alone (e ∷ log) (suc n) b hosts =
    let parts = and_parts (is_from_host e) (list_all is_from_host log) hosts in
    and_from (is_from_host e) (list_all is_from_host (cut_at log n b)) parts.0 (cut_alone log n b parts.1)

-- ---- all of them

two_alone : (first more : List Entry) → list_all is_from_host first ≡ true → list_all is_from_host more ≡ true → list_all is_from_host (first ++ more) ≡ true
two_alone first more one rest = list_all-append is_from_host first more ∙ and_from (list_all is_from_host first) (list_all is_from_host more) one rest

-- the entries of exchanges that keep to such
pub kept_alone : (dues : List Due) (pieces : List Piece) → All AsksNobody dues → keeps_to dues pieces ≡ true → list_all is_from_host (flat_map (piece_entries 0) pieces) ≡ true
kept_alone dues [] alone keeps = refl
kept_alone [] (p ∷ pieces) alone keeps = cc
kept_alone (test ∷ dues) (Whole x ∷ pieces) alone keeps =
    let parts = and_parts (test true x) (keeps_to dues pieces) keeps in
    two_alone (entries_of 0 x) (flat_map (piece_entries 0) pieces) (All-head AsksNobody test dues alone true x parts.0)
    (kept_alone dues pieces (All-tail AsksNobody test dues alone) parts.1)
kept_alone (test ∷ dues) (Cut x n b ∷ []) alone keeps =
    two_alone (cut_at (entries_of 0 x) n b) [] (cut_alone (entries_of 0 x) n b (All-head AsksNobody test dues alone false x keeps)) refl
kept_alone (test ∷ dues) (Cut x n b ∷ p ∷ pieces) alone keeps = cc

addresses_alone : (z : LoopState) → All AsksNobody (addresses_due z)
addresses_alone z =
    All-cons AsksNobody (is_commanding ifc) (is_commanding aau ∷ is_numbering (device_count z) ∷ []) (commanding_alone ifc)
    (All-cons AsksNobody (is_commanding aau) (is_numbering (device_count z) ∷ []) (commanding_alone aau)
    (All-cons AsksNobody (is_numbering (device_count z)) [] (numbering_alone (device_count z)) (All-nil AsksNobody)))

-- the entries of an addressing, whole or broken off
pub addressed_alone : (z : LoopState) (pieces : List Piece) → keeps_to (addresses_due z) pieces ≡ true → list_all is_from_host (flat_map (piece_entries 0) pieces) ≡ true
addressed_alone z pieces keeps = kept_alone (addresses_due z) pieces (addresses_alone z) keeps

-- of one that is made only where the loop is not ready
pub addressed_first_alone : (z : LoopState) (ready : Bool) (pieces : List Piece) → keeps_to (addressed_first z ready []) pieces ≡ true
    → list_all is_from_host (flat_map (piece_entries 0) pieces) ≡ true
addressed_first_alone z true pieces keeps = kept_alone [] pieces (All-nil AsksNobody) keeps
addressed_first_alone z false pieces keeps = addressed_alone z pieces keeps
