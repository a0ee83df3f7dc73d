use Rattle.std.proofs.Common.{ℕ, ◌++◌, List, length, sym, ap, ◌∙◌, subst, arith}
use Rattle.std.specs.List.{flat_map, list_all, AllByRecursion}
use Rattle.mm_object.specs.{declared.thread.Thread.Thread, Objects.{Segment, IsSegment, is_thread}}
use Rattle.mm_text.proofs.Appending.{appends_then, appends_same, buffered_writes}
use Rattle.mm_disasm.specs.Canonical.{spare_line, segments_text, thread_text, canonical}
use Rattle.mm_disasm.proofs.disassembling.disassemble.Goals as goal

pub put_segments-requires-clause-few : goal.put_segments-requires-clause-few
put_segments-requires-clause-few g c = omega (arith, ap length c.segments.ensures.segments, c.segments.ensures.object.few_segments)

pub put_segments-requires-clause-segments : goal.put_segments-requires-clause-segments
put_segments-requires-clause-segments g c = subst (AllByRecursion IsSegment) (sym c.segments.ensures.segments) c.segments.ensures.object.segments

pub put_threads-requires : goal.put_threads-requires
put_threads-requires g c =
    let o = c.args.o.now in
    ap (list_all (is_thread o.segments (length o.externals))) c.threads.ensures.threads ∙ c.threads.ensures.object.threads

pub returns : goal.returns
unfolding canonical
returns g c =
    let o = c.args.o.now in
    let segments = c.segments.result.now in
    let threads = c.threads.result.now in
    let wrote = appends_then (appends_then c.put_spare.ensures c.put_segments.ensures) c.put_threads.ensures in
    buffered_writes c.new-text.ensures
    (appends_same wrote
    (ap (λ (n : ℕ). spare_line n ++ segments_text o 0 segments ++ flat_map (thread_text o) threads) c.spare.ensures.spare
    ∙ ap (λ (s : List Segment). spare_line o.spare ++ segments_text o 0 s ++ flat_map (thread_text o) threads) c.segments.ensures.segments
    ∙ ap (λ (t : List Thread). spare_line o.spare ++ segments_text o 0 o.segments ++ flat_map (thread_text o) t) c.threads.ensures.threads))
    c.finish.ensures
