-- Bytes that are read from a source, piece by piece.
use Rattle.std.proofs.Common.{◌≡◌, ◌<◌, ◌≤◌, ◌+◌, ◌∙◌, ◌++◌, ℕ, List, [], Option, Some, None, IfSome, length, length-append, append-nil, subst, sym, ap, arith}
use Rattle.std.specs.Io.KnownBytes.{Consumes, IsAtEnd}
use Rattle.tape_input.specs.Input.{IsAll}

-- what all bytes are is known of the source, if contracts can see it
pub of_source : (P : List ℕ → Type 0) (bytes : List ℕ) (left left_now : Option (List ℕ)) → IsAll bytes left left_now → P bytes → IfSome left P
of_source P bytes None left_now all holds = tt
of_source P bytes (Some whole) None all holds = absurd all.taken
of_source P bytes (Some whole) (Some rest) all holds = subst P (sym (all.taken ∙ ap (λ (l : List ℕ). bytes ++ l) all.rest ∙ append-nil bytes)) holds

-- it has more bytes than were taken of it
pub more_than : (most : ℕ) (bytes : List ℕ) (left left_now : Option (List ℕ)) → Consumes left left_now bytes → most < length bytes → IfSome left (λ whole. most < length whole)
more_than most bytes None left_now taken more = tt
more_than most bytes (Some whole) None taken more = absurd taken
more_than most bytes (Some whole) (Some rest) taken more = let long = ap length taken in let both = length-append bytes rest in omega (arith, long, both, more)
