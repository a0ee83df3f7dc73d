use Rattle.std.proofs.Common.{refl}
use Rattle.mm_save.specs.{Recorder.recalled, Shown.recording_of}
use Rattle.mm_save.proofs.recorder.RecorderLineHandler.handle_line.Goals as goal

pub returns : goal.returns
returns g c =
    let r = recording_of c.args.self.now in
    record {
      text = (recalled r.first r.session c.args.line.now).reply;
      appends = c.put_line.ensures.reply;
      holds = record {
        answer = record { reply = refl; session = c.put_line.ensures.session; go = c.put_line.ensures.go };
        first = c.put_line.ensures.first;
        kept = c.put_line.ensures.kept;
        stands = c.put_line.ensures.stands;
      };
    }
