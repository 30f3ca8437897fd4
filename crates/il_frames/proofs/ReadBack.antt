-- Each frame is the candidate of its own text, whatever follows it: computed over the whole table,
-- once for each class. So no frame's text begins another's, and no two frames have one text.
use Rattle.std.proofs.Common.{◌≡◌, ℕ, zero, suc, ◌<◌, Bool, true, false, ◌&&◌, ◌==◌, List, [], ◌++◌, Option, Some, None, refl, eqb-true, ap, sym, ◌∙◌, arith, subst, inl, inr, not-suc-le-zero, append-nil}
use Rattle.std.proofs.lemmas.Bool.{cases_lt, and_parts}
use Rattle.hex.specs.Hex.{decode_pairs}
use Rattle.il_frames.specs.declared.frame.Class.{Class}
use Rattle.il_frames.specs.declared.frame.Class.TheVariants as class
use Rattle.il_frames.specs.declared.frame.Frame.{Frame}
use Rattle.il_frames.specs.Frames.{class_of, byte_of, framed, IsFrame, number_of_class, same_class}
use Rattle.il_frames.specs.declared.message.Message.{Message}
use Rattle.il_frames.specs.Messages.{message_of}
use Rattle.il_frames.specs.Texts.{message_text, text_of}
use Rattle.il_frames.specs.Names.{candidate_of}

-- each number below n passes
unfoldable pub all_below : (ℕ → Bool) → ℕ → Bool
all_below p zero = true
all_below p (suc n) = p n && all_below p n

pub all_below-at : (p : ℕ → Bool) (n j : ℕ) → all_below p n ≡ true → j < n → p j ≡ true
unfolding all_below
all_below-at p zero j h lt = absurd (not-suc-le-zero lt)
all_below-at p (suc n) j h lt =
    let parts = and_parts (p n) (all_below p n) h in
    elim (cases_lt j n) [
      | inl below ↦ all_below-at p n j parts.1 below
      | inr last ↦ let at : n ≡ j = omega arith in subst (λ k. p k ≡ true) at parts.0
    ]

-- there is a frame, of this class and this byte
abbrev pub is_frame : Class → ℕ → Option Frame → Bool
is_frame k b None = false
is_frame k b (Some f) = same_class (class_of f) k && (byte_of f == b)

-- the frame of class k and byte b is the candidate of its text and a tail
abbrev pub reads_back : Class → List ℕ → ℕ → Bool
reads_back k tail b = is_frame k b (candidate_of (text_of (framed k b) ++ tail))

pub all_read_back : (k : Class) (tail : List ℕ) → all_below (reads_back k tail) 256 ≡ true
unfolding all_below decode_pairs
all_read_back class.Dab tail = refl
all_read_back class.Dsr tail = refl
all_read_back class.End tail = refl
all_read_back class.Esr tail = refl
all_read_back class.Cmd tail = refl
all_read_back class.Rdy tail = refl
all_read_back class.Idy tail = refl
all_read_back class.Isr tail = refl

-- the class of a number
abbrev pub class_at : ℕ → Class
class_at zero = class.Dab
class_at (suc zero) = class.Dsr
class_at (suc (suc zero)) = class.End
class_at (suc (suc (suc zero))) = class.Esr
class_at (suc (suc (suc (suc zero)))) = class.Cmd
class_at (suc (suc (suc (suc (suc zero))))) = class.Rdy
class_at (suc (suc (suc (suc (suc (suc zero)))))) = class.Idy
class_at (suc (suc (suc (suc (suc (suc (suc n))))))) = class.Isr

class_at-number : (k : Class) → class_at (number_of_class k) ≡ k
class_at-number class.Dab = refl
class_at-number class.Dsr = refl
class_at-number class.End = refl
class_at-number class.Esr = refl
class_at-number class.Cmd = refl
class_at-number class.Rdy = refl
class_at-number class.Idy = refl
class_at-number class.Isr = refl

-- two classes of one number are one
pub class_from_number : (k l : Class) → number_of_class k ≡ number_of_class l → k ≡ l
class_from_number k l h = sym (class_at-number k) ∙ ap class_at h ∙ class_at-number l

is_frame-true :
    (k : Class) (b : ℕ) (o : Option Frame) → is_frame k b o ≡ true → o ≡ Some (framed k b)
is_frame-true k b None h = cc
is_frame-true k b (Some f) h =
    let parts = and_parts (same_class (class_of f) k) (byte_of f == b) h in
    let p : class_of f ≡ k = class_from_number (class_of f) k (eqb-true _ _ parts.0) in
    let q : byte_of f ≡ b = eqb-true _ _ parts.1 in
    ap (λ (c : Class). Some (framed c (byte_of f))) p ∙ ap (λ (n : ℕ). Some (framed k n)) q

-- the law of the table
pub candidate_of-append :
    (f : Frame) (tail : List ℕ) → IsFrame f → candidate_of (text_of f ++ tail) ≡ Some f
candidate_of-append f tail h =
    is_frame-true (class_of f) (byte_of f) (candidate_of (text_of f ++ tail))
    (all_below-at (reads_back (class_of f) tail) 256 (byte_of f) (all_read_back (class_of f) tail) h)

-- no frame's text begins another's
pub text_of-prefix : (f g : Frame) (s t : List ℕ) → IsFrame f → IsFrame g →
    text_of f ++ s ≡ text_of g ++ t → f ≡ g
text_of-prefix f g s t hf hg e =
    let p : Some f ≡ Some g =
    sym (candidate_of-append f s hf) ∙ ap candidate_of e ∙ candidate_of-append g t hg in
    cc

-- no two frames have one text
pub only_text : (f : Frame) (t : List ℕ) → IsFrame f → t ≡ text_of f →
    (other : Frame) → IsFrame other → text_of other ≡ t → other ≡ f
only_text f t hf is other ho e =
    text_of-prefix other f [] [] ho hf (ap (λ (s : List ℕ). s ++ []) (e ∙ is))

-- no two frames have one message
pub only_message : (f : Frame) (m : Message) → IsFrame f → m ≡ message_of f →
    (other : Frame) → IsFrame other → message_of other ≡ m → other ≡ f
only_message f m hf is other ho e =
    only_text f (message_text m) hf (ap message_text is) other ho (ap message_text e)

-- a frame is the candidate of its text
pub candidate_of-text :
    (f : Frame) (text : List ℕ) → IsFrame f → text_of f ≡ text → candidate_of text ≡ Some f
candidate_of-text f text h e =
    ap candidate_of (sym e ∙ sym (append-nil (text_of f))) ∙ candidate_of-append f [] h

-- the candidate is the only frame that has the text
pub only_candidate : (g : Frame) (text : List ℕ) → Some g ≡ candidate_of text →
    (f : Frame) → IsFrame f → text_of f ≡ text → Some g ≡ Some f
only_candidate g text is f h e = is ∙ candidate_of-text f text h e

-- where there is no candidate no frame has the text
pub no_candidate : (text : List ℕ) → None ≡ candidate_of text →
    (f : Frame) → IsFrame f → text_of f ≡ text → ⊥
no_candidate text is f h e = let p : None ≡ Some f = is ∙ candidate_of-text f text h e in cc

-- where the candidate's text is another no frame has the text
pub other_candidate : (g : Frame) (text own : List ℕ) → Some g ≡ candidate_of text →
    own ≡ text_of g → (own ≡ text → ⊥) → (f : Frame) → IsFrame f → text_of f ≡ text → ⊥
other_candidate g text own is spelled differs f h e =
    let p : Some g ≡ Some f = only_candidate g text is f h e in
    let q : g ≡ f = cc in
    differs (spelled ∙ ap text_of q ∙ e)
