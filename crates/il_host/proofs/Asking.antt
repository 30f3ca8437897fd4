-- What a line asks for, and how that is answered.
use Rattle.std.specs.List.{cons_option}
use Rattle.std.proofs.Common.{◌≡◌, ◌∙◌, ℕ, Bool, true, false, List, [], ◌∷◌, Option, Some, None, refl, sym, ap, subst}
use Rattle.std.specs.Prelude.{Result, Ok, Err, option_map}
use Rattle.il_script.specs.Commands.{Asked, command_read, bytes_read}
use Rattle.il_script.specs.Replies.{fault_code, reply_line}
use Rattle.il_script.specs.declared.command.Command.{Command}
use Rattle.il_script.specs.declared.command.LineFault.{LineFault}
use Rattle.il_script.specs.declared.reply.Code.{Code}
use Rattle.il_script.specs.declared.reply.Reply.{Reply}
use Rattle.il_script.specs.declared.reply.Reply.TheVariants as reply
use Rattle.lif_model.specs.Parts.{Part}
use Rattle.host_model.specs.Requests.{Item, NoCommand, item_for, item_of_read, coded}
use Rattle.il_host.specs.Gathering.{read_with}
use Rattle.host_model.specs.HostStates.{HostState}
use Rattle.host_model.specs.Steps.{Event}
use Rattle.host_model.specs.Runs.{OutputMode, event_text}
use Rattle.host_model.specs.Orders.{quiet_mode}
use Rattle.host_model.proofs.NoCommands.{refusal, no_command, no_command_stops}
use Rattle.il_host.specs.HostView.{HostView, IsHost, Performed}
use Rattle.il_host.specs.Run.{Answers, event_of, item_asked}
use Rattle.il_host.specs.declared.running.Asked.{Asked as Wanted}
use Rattle.il_ports.specs.Writing.{WritesAll}
use Rattle.il_host.specs.Writing.{told_text}
use Rattle.il_host.proofs.Images.{images_kept}

-- ---- readings

pub skipped : (r : Result (Option Asked) LineFault) → command_read r ≡ Ok None → item_of_read (coded r) ≡ None
skipped (Ok None) h = refl
skipped (Ok (Some asked)) h = cc
skipped (Err fault) h = cc

pub understood : (r : Result (Option Asked) LineFault) (command : Command) (bytes : List ℕ) → command_read r ≡ Ok (Some command) → bytes ≡ bytes_read r
    → item_of_read (coded r) ≡ Some (item_for command bytes)
understood (Ok None) command bytes h b = cc
understood (Ok (Some asked)) command bytes h b =
    let same : asked.command ≡ command = cc in
    ap (λ (c : Command). Some (item_for c asked.bytes)) same ∙ ap (λ l. Some (item_for command l)) (sym b)
understood (Err fault) command bytes h b = cc

pub refused : (r : Result (Option Asked) LineFault) (fault : LineFault) → command_read r ≡ Err fault → item_of_read (coded r) ≡ Some (NoCommand (fault_code fault))
refused (Ok None) fault h = cc
refused (Ok (Some asked)) fault h = cc
refused (Err fault') fault h =
    let same : fault' ≡ fault = cc in
    ap (λ (f : LineFault). Some (NoCommand (fault_code f))) same

-- the reading with its bytes
pub reads_back : (r : Result (Option Asked) LineFault) → read_with (coded (command_read r)) (bytes_read r) ≡ coded r
reads_back (Ok None) = refl
reads_back (Ok (Some asked)) = refl
reads_back (Err fault) = refl

-- what was gathered asks for no item, or for this one
pub asks_nothing : (wanted : Option Wanted) (bytes : List ℕ) (parts : List Part) (o : Option Item) → option_map (λ (w : Wanted). item_asked w bytes parts) wanted ≡ o → wanted ≡ None → o ≡ None
asks_nothing wanted bytes parts o h is = sym h ∙ ap (option_map (λ (w : Wanted). item_asked w bytes parts)) is

pub asks_this : (wanted : Option Wanted) (this : Wanted) (bytes : List ℕ) (parts : List Part) (o : Option Item) → option_map (λ (w : Wanted). item_asked w bytes parts) wanted ≡ o
    → wanted ≡ Some this → o ≡ Some (item_asked this bytes parts)
asks_this wanted this bytes parts o h is = sym h ∙ ap (option_map (λ (w : Wanted). item_asked w bytes parts)) is

-- what is left open asks for nothing, or for this
pub left_nothing : (wanted : Option Wanted) (bytes : List ℕ) (parts : List Part) (items : List Item) → cons_option (option_map (λ (w : Wanted). item_asked w bytes parts) wanted) [] ≡ items → wanted ≡ None → items ≡ []
left_nothing wanted bytes parts items h is = sym h ∙ ap (λ (o : Option Wanted). cons_option (option_map (λ (w : Wanted). item_asked w bytes parts) o) []) is

pub left_this : (wanted : Option Wanted) (this : Wanted) (bytes : List ℕ) (parts : List Part) (items : List Item) → cons_option (option_map (λ (w : Wanted). item_asked w bytes parts) wanted) [] ≡ items
    → wanted ≡ Some this → items ≡ item_asked this bytes parts ∷ []
left_this wanted this bytes parts items h is = sym h ∙ ap (λ (o : Option Wanted). cons_option (option_map (λ (w : Wanted). item_asked w bytes parts) o) []) is

-- ---- texts

told_event : (quiet : Bool) (e : Event) (text : List ℕ) → told_text quiet e.log text ≡ event_text (quiet_mode quiet) e text
told_event true e text = refl
told_event false e text = refl

told_refusal : (quiet : Bool) (code : Code) (s : HostState) → reply_line (reply.No code) ≡ event_text (quiet_mode quiet) (refusal code s) (reply_line (reply.No code))
told_refusal true code s = refl
told_refusal false code s = refl

-- ---- answers

-- to an item that was performed, in each mode
pub answers_performed : {E : Type 0} (item : Item) (r : Reply) (mode : OutputMode) (v w : HostView) (before now : Option (List ℕ)) (written : Result (Unit {0}) E)
    → Performed item r v w → WritesAll before now (event_text mode (event_of item r w.log v w) w.text) written → Answers item r mode v w before now written
answers_performed item r mode v w before now written p h = record {
  log = w.log;
  valid = p.valid;
  plan = p.plan;
  step = p.step;
  stops = p.stops;
  text = w.text;
  text_is = p.text;
  bytes = h;
  images = p.images;
}

-- and what is told of it was written
pub answers_command : {E : Type 0} (item : Item) (r : Reply) (quiet : Bool) (v w : HostView) (before now : Option (List ℕ)) (written : Result (Unit {0}) E)
    → Performed item r v w → WritesAll before now (told_text quiet w.log w.text) written → Answers item r (quiet_mode quiet) v w before now written
answers_command item r quiet v w before now written p h = answers_performed item r (quiet_mode quiet) v w before now written p
    (subst (λ text. WritesAll before now text written) (told_event quiet (event_of item r w.log v w) w.text) h)

-- to a line that is no command, whatever is told of it
pub answers_refusal : {E : Type 0} (code : Code) (mode : OutputMode) (v : HostView) (before now : Option (List ℕ)) (written : Result (Unit {0}) E)
    → v.valid → IsHost v → WritesAll before now (event_text mode (refusal code v.state) (reply_line (reply.No code))) written → Answers (NoCommand code) (reply.No code) mode v v before now written
answers_refusal code mode v before now written valid host h = record {
  log = [];
  valid = valid;
  plan = refl;
  step = no_command v.plan code v.state host.one;
  stops = no_command_stops code v.state v.moment v.left_since host.leaves_only;
  text = reply_line (reply.No code);
  text_is = λ told. refl;
  bytes = h;
  images = images_kept v.inside v.images;
}

-- and where that is the line of its code
pub answers_no_command : {E : Type 0} (code : Code) (quiet : Bool) (v : HostView) (before now : Option (List ℕ)) (written : Result (Unit {0}) E)
    → v.valid → IsHost v → WritesAll before now (reply_line (reply.No code)) written → Answers (NoCommand code) (reply.No code) (quiet_mode quiet) v v before now written
answers_no_command code quiet v before now written valid host h =
    answers_refusal code (quiet_mode quiet) v before now written valid host (subst (λ text. WritesAll before now text written) (told_refusal quiet code v.state) h)
