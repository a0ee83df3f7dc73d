use Rattle.std.proofs.Common.{◌≤◌, ◌++◌, ℕ, length, map, ap, ◌∙◌, sym, subst, refl, arith}
use Rattle.std.proofs.lemmas.Result.{on_ok_weaker}
use Rattle.std.specs.List.{AllByRecursion}
use Rattle.mm_config.specs.declared.configs.Configs as code
use Rattle.mm_config.specs.Reads.{queue_read}
use Rattle.mm_config.proofs.{Reached.room, ReadQueues.{queue_changes, kept_names, queues_are_read}}
use Rattle.mm_config.proofs.configs.Configs.read_queues.Goals as goal

pub list_changed-requires : goal.list_changed-requires
list_changed-requires c =
    let r = c.requires in
    let low = r.stands.depth in
    record { was = r.stands.named.names.queues.inner; tree = r.names.queues.inner; depth = omega (arith, low); room = room c.args.wanted.now c.args.self.now r }

pub take_queues-requires : goal.take_queues-requires
take_queues-requires c =
    let me = c.args.self.now in
    let w = c.args.wanted.now in
    let list = c.deref.ensures.value ∙ c.in_ok-list_changed.ensures ∙ ap (λ l. l ++ queue_changes w me) c.clear.ensures.items in
    subst (AllByRecursion (λ (e : ℕ × ℕ). e.1 ≤ length me.store.lists)) (sym list) (kept_names w me c.requires)

pub returns : goal.returns
returns c =
    let me = c.args.self.now in
    let w = c.args.wanted.now in
    let list = c.deref.ensures.value ∙ c.in_ok-list_changed.ensures ∙ ap (λ l. l ++ queue_changes w me) c.clear.ensures.items in
    let now : code.Configs = record me { revision = record me.revision { queues = c.take_queues.new.queues }; changed = c.list_changed.new.out } in
    on_ok_weaker c.take_queues.result (λ is r. queues_are_read w me r now (is ∙ ap (map (queue_read me.store.lists)) list) refl refl) c.take_queues.ensures
