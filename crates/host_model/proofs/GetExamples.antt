-- Worked examples of text files, computed by the checker.
use Rattle.std.proofs.Common.{◌≡◌, ◌++◌, [], ◌∷◌, Some, None, true, false, is_some, refl, ap, codes, replicate}
use Rattle.std.specs.Fmt.{digits}
use Rattle.hex.proofs.OnLiterals.{hex_on_literals}
use Rattle.hex.specs.Hex.{encode_with}
use Rattle.lif_text.specs.Pieces.{lines_in}
use Rattle.lif_model.specs.Numbers.{two_at, four_at}
use Rattle.lif_model.specs.Gate.{is_open}
use Rattle.lif_model.specs.Directory.{name_of, entry_at, entries_of}
use Rattle.lif_model.specs.Apply as volume
use Rattle.lif_model.specs.declared.refusal.Refusal.TheVariants as refusal
use Rattle.lif_model.proofs.Examples as base
use Rattle.lif_model.proofs.VolumeExamples.{file, a_name, b_name}
use Rattle.il_script.specs.declared.reply.Code.TheVariants as code
use Rattle.il_script.specs.declared.reply.Reply.TheVariants as reply
use Rattle.host_model.specs.Requests.{OfVolume, Get, Status, Asks, NoCommand, items_of, unless_long, is_of_volume, uses_frames}
use Rattle.host_model.specs.Replies.{got_as, lines_of_file, lines_of_found, lines_of_type, lines_text, reply_of, reply_text}
use Rattle.host_model.specs.Stops.{MayBeLeft}
use Rattle.host_model.proofs.Small.{texts_differ, false_is_not_true, not_foreign, empty_host, a_host}
use Rattle.host_model.proofs.TextExamples.{a_found}

-- ---- requests

-- a line y with its filler, an empty line, and the end
put_item : items_of (codes "put A 790A0A") ≡ Asks (OfVolume (volume.Store a_name 1 (replicate 4 0) (0 ∷ 1 ∷ 121 ∷ 0 ∷ 0 ∷ 0 ∷ 255 ∷ 255 ∷ []))) ∷ []
unfolding hex_on_literals
put_item = refl

get_item : items_of (codes "get a") ≡ Asks (Get (codes "a         ")) ∷ []
get_item = refl

-- a line that is too long asks nothing of the volume
long_put : (unless_long None Status ≡ Asks Status) × (unless_long (Some 3) Status ≡ NoCommand code.NotText)
long_put = (refl, refl)

kinds : (is_of_volume (Asks (Get a_name)) ≡ true) × (uses_frames (Asks (Get a_name)) ≡ true) × (uses_frames (NoCommand code.NotText) ≡ false)
kinds = (refl, refl, refl)

-- ---- lines

-- another type is no text, nor is a length of 8000 hex
lines : (lines_of_type 1 (0 ∷ 1 ∷ 121 ∷ 9 ∷ []) ≡ Some (codes "y" ∷ [])) × (lines_of_type 0xE0D1 (255 ∷ 255 ∷ []) ≡ None) × (lines_of_type 1 (128 ∷ 0 ∷ []) ≡ None)
unfolding lines_in
lines = (refl, refl, refl)

found : (lines_of_found (Some (file a_name 4 1)) (Some (255 ∷ 255 ∷ [])) ≡ Some []) × (lines_of_found (Some (file a_name 4 1)) None ≡ None) × (lines_of_file a_name None ≡ None)
unfolding lines_in two_at
found = (refl, refl, refl)

text : lines_text (Some (codes "y" ∷ [] ∷ [])) ≡ codes "line 79" ++ 10 ∷ codes "line -" ++ 10 ∷ []
unfolding encode_with
text = refl

-- an empty line has no blank in the place of its bytes
line_of_nothing : lines_text (Some ([] ∷ [])) ≡ codes "line " ++ 10 ∷ [] → ⊥
unfolding encode_with
line_of_nothing = texts_differ _ _ refl

-- ---- replies

-- a refusal of the fetch goes before
replies : (got_as None (Some []) ≡ reply.Ok) × (got_as None None ≡ reply.No code.NotText) × (got_as (Some refusal.NoFile) None ≡ reply.No code.NoFile)
replies = (refl, refl, refl)

get_missing : reply_of (Asks (Get b_name)) a_host ≡ reply.No code.NoFile
unfolding two_at four_at name_of is_open entry_at entries_of
get_missing = refl

-- the bytes AB are the length of a line that passes their end
get_no_text : reply_of (Asks (Get a_name)) a_host ≡ reply.No code.NotText
unfolding two_at four_at name_of is_open entry_at entries_of lines_in
get_no_text = ap (λ bytes. got_as None (lines_of_found (Some (file a_name 4 1)) bytes)) a_found

no_text : reply_text (Asks (Get a_name)) a_host [] (reply.No code.NotText) ≡ codes "error 16 NotText" ++ 10 ∷ []
unfolding digits
no_text = refl

-- ---- power stops

get_left : MayBeLeft (Asks (Get a_name)) empty_host base.formatted
unfolding two_at four_at name_of is_open entry_at entries_of
get_left = record { own = λ gate. (refl, refl); foreign = λ t was foreign. absurd (not_foreign base.formatted t refl was foreign) }

get_left_blank : MayBeLeft (Asks (Get a_name)) empty_host (replicate 12 base.blank) → ⊥
unfolding two_at four_at name_of is_open entry_at entries_of
get_left_blank left = false_is_not_true (ap is_some (left.own refl).0)
