use Rattle.std.proofs.Common.{◌++◌, ap, ◌∙◌, sym, subst, refl, arith}
use Rattle.std.proofs.lemmas.Result.{on_ok_weaker}
use Rattle.std.specs.List.{AllByRecursion, AllZip}
use Rattle.mm_thread.specs.Revisions.{outputs_in}
use Rattle.mm_config.specs.declared.configs.Configs as code
use Rattle.mm_config.specs.Reads.{IsOutputChange, IsOutputRead}
use Rattle.mm_config.proofs.ReadOutputs.{output_changes, output_changed, outputs_are_read}
use Rattle.mm_config.proofs.configs.Configs.read_outputs.Goals as goal

pub list_changed-requires : goal.list_changed-requires
list_changed-requires c =
    let r = c.requires in
    record { was = r.stands.named.names.outputs.inner; tree = r.names.outputs.inner; depth = omega arith; room = omega arith }

pub take_outputs-requires-clause-each : goal.take_outputs-requires-clause-each
take_outputs-requires-clause-each c =
    let me = c.args.self.now in
    let w = c.args.wanted.now in
    let list = c.deref.ensures.value ∙ c.in_ok-list_changed.ensures ∙ ap (λ l. l ++ output_changes w me) c.clear.ensures.items in
    subst (AllByRecursion (IsOutputChange me.store me.core me.names.outputs)) (sym list) (output_changed w me c.requires)

pub returns : goal.returns
returns c =
    let me = c.args.self.now in
    let w = c.args.wanted.now in
    let list = c.deref.ensures.value ∙ c.in_ok-list_changed.ensures ∙ ap (λ l. l ++ output_changes w me) c.clear.ensures.items in
    let now : code.Configs = record me { revision = record me.revision { outputs = c.take_outputs.new.outputs }; changed = c.list_changed.new.out } in
    on_ok_weaker c.take_outputs.result
    (λ are r. outputs_are_read w me r now (subst (λ es. AllZip (IsOutputRead me.store me.core) es (outputs_in now.revision)) list are) refl refl refl)
    c.take_outputs.ensures
