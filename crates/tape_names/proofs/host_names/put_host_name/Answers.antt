use Rattle.std.proofs.Common.{◌∙◌, ℕ, List, ap, sym, subst}
use Rattle.tape_names.specs.HostNames.{host_name_of, entry_of_host_name, IsHostName}
use Rattle.tape_names.proofs.host_names.put_host_name.Goals as goal

pub returns-clause-read_back : goal.returns-clause-read_back
returns-clause-read_back c =
    ap (λ (l : List ℕ). entry_of_host_name (host_name_of l c.args.kind c.args.field.now)) (sym c.bytes.ensures)
    ∙ c.put_parts.ensures.read_back c.args.name.now (sym c.bytes.ensures)

pub returns-clause-safe : goal.returns-clause-safe
returns-clause-safe c = subst (λ (l : List ℕ). IsHostName (host_name_of l c.args.kind c.args.field.now)) c.bytes.ensures c.put_parts.ensures.safe
