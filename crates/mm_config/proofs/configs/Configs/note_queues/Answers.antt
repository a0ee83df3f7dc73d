use Rattle.std.proofs.Common.{◌≡◌, ◌≢◌, ◌⊎◌, inl, inr, ℕ}
use Rattle.std.proofs.lemmas.Result.{on_ok_weaker}
use Rattle.mm_config.{specs.Turning.IsFaultHandler, proofs.OneNote.{queues_weaker, queues_twice, trees_after_queues}}
use Rattle.mm_config.proofs.configs.Configs.note_queues.Goals as goal

pub note_queue-requires-clause-trees : goal.note_queue-requires-clause-trees
note_queue-requires-clause-trees c =
    let me = c.args.self.now in
    trees_after_queues (IsFaultHandler me.base.items c.args.step.now.tick c.args.at) me c.note_fault.new.self c.in_ok-note_fault.ensures c.requires.trees

pub returns : goal.returns
returns c =
    let me = c.args.self.now in
    let at = c.args.at in
    let mid = c.note_fault.new.self in
    let new = c.note_queue.new.self in
    let Fault : ℕ → Type 0 = IsFaultHandler me.base.items c.args.step.now.tick at in
    on_ok_weaker c.note_queue.result
    (λ own. queues_weaker (λ k. Fault k ⊎ (k ≡ at)) (λ k. Fault k ⊎ ((k ≡ at) × (new.names.queues ≢ 0))) (λ k due. elim due [ inl h ↦ inl h | inr h ↦ inr h.0 ]) me new
    (queues_twice Fault (λ k. k ≡ at) me mid new c.in_ok-note_fault.ensures own)) c.note_queue.ensures
