-- What is added to one table is added to all of them.
use Rattle.std.{proofs.Common.{inl, inr, ℕ, List, [], ◌∷◌, refl, sym, subst}}
use Rattle.mm_word.specs.{Pointer.{Pointer as PointerValue}}
use Rattle.mm_isa.specs.declared.instr.How.{How}
use Rattle.mm_model.specs.Image.{Image}
use Rattle.mm_kernel.specs.Segments.{Segment}
use Rattle.mm_kernel.specs.declared.{fact.{Leak.Leak, Handling.Handling}, form.Form.Form, thread.Thread.Thread}
use Rattle.mm_kernel.specs.Facts.{Fact, Fact.{HasThread, HasForm, HasDoor, HasEvent, HasFaulted, HasLeak}}
use Rattle.mm_keep.specs.Claims.{Claim, Tables, Adds, AddsFacts, Facts, Holds, IsSound, Means, Only}
use Rattle.mm_keep.specs.Claims.Claim.{IsFact, SomeResumes, SomeWrites}
use Rattle.mm_keep.proofs.{Claims.begins_same, Members.{in_first, in_cases, none_in}, Same.Inserted}

-- the one fact of a list
one_fact : (fact : Fact) (P : Claim → Type 0) → P (IsFact fact) → (claim : Claim) → Facts (fact ∷ []) claim → P claim
one_fact fact P p (IsFact other) h = elim (in_cases fact [] other h) [
  | inl same ↦ subst (λ f. P (IsFact f)) same p
  | inr none ↦ absurd (none_in other none)
]
one_fact fact P p (SomeResumes slot how) h = absurd h
one_fact fact P p (SomeWrites slot reg form) h = absurd h

module _ (i : Image) (kept : List Segment) (old : Tables) where
  -- to the threads
  thread_sound : (t : Thread) (now : List (Thread)) → Inserted old.threads t now → IsSound i kept old → Means i kept (IsFact (HasThread t)) → IsSound i kept (record old { threads = now })
  thread_sound t now put s m = record { means = sound }
    where
      sound : (claim : Claim) → Holds i kept (record old { threads = now }) claim → Means i kept claim
      sound (IsFact (HasThread y)) held = elim (put.only y held) [
        | inl early ↦ s.means (IsFact (HasThread y)) early
        | inr same ↦ subst (λ x. Means i kept (IsFact (HasThread x))) (sym same) m
      ]
      sound (IsFact (HasForm y z)) (inl first) = s.means (IsFact (HasForm y z)) (inl first)
      sound (IsFact (HasForm y z)) (inr held) = s.means (IsFact (HasForm y z)) (inr held)
      sound (IsFact (HasDoor y)) held = s.means (IsFact (HasDoor y)) held
      sound (IsFact (HasEvent y z)) held = s.means (IsFact (HasEvent y z)) held
      sound (IsFact (HasFaulted y z)) held = s.means (IsFact (HasFaulted y z)) held
      sound (IsFact (HasLeak y)) held = s.means (IsFact (HasLeak y)) held
      sound (SomeResumes y z) held = s.means (SomeResumes y z) held
      sound (SomeWrites y z v) held = s.means (SomeWrites y z v) held

  pub adds_thread : (t : Thread) (now : List (Thread)) → Inserted old.threads t now → AddsFacts i kept (HasThread t ∷ []) old (record old { threads = now })
  adds_thread t now put = record {
    grows = record {
      threads = put.begins;
      doors = begins_same old.doors;
      leaks = begins_same old.leaks;
      stored = begins_same old.stored;
      events = begins_same old.events;
      faulted = begins_same old.faulted;
      resumes = begins_same old.resumes;
      writes = begins_same old.writes;
    };
    holds = one_fact (HasThread t) (λ c. Holds i kept (record old { threads = now }) c) (put.has);
    sound = λ s all. thread_sound t now put s (all (IsFact (HasThread t)) (in_first (HasThread t) []));
  }

  -- to the doors
  door_sound : (p : PointerValue) (now : List (PointerValue)) → Inserted old.doors p now
      → IsSound i kept old → Means i kept (IsFact (HasDoor p)) → IsSound i kept (record old { doors = now })
  door_sound p now put s m = record { means = sound }
    where
      sound : (claim : Claim) → Holds i kept (record old { doors = now }) claim → Means i kept claim
      sound (IsFact (HasThread y)) held = s.means (IsFact (HasThread y)) held
      sound (IsFact (HasForm y z)) (inl first) = s.means (IsFact (HasForm y z)) (inl first)
      sound (IsFact (HasForm y z)) (inr held) = s.means (IsFact (HasForm y z)) (inr held)
      sound (IsFact (HasDoor y)) held = elim (put.only y held) [
        | inl early ↦ s.means (IsFact (HasDoor y)) early
        | inr same ↦ subst (λ x. Means i kept (IsFact (HasDoor x))) (sym same) m
      ]
      sound (IsFact (HasEvent y z)) held = s.means (IsFact (HasEvent y z)) held
      sound (IsFact (HasFaulted y z)) held = s.means (IsFact (HasFaulted y z)) held
      sound (IsFact (HasLeak y)) held = s.means (IsFact (HasLeak y)) held
      sound (SomeResumes y z) held = s.means (SomeResumes y z) held
      sound (SomeWrites y z v) held = s.means (SomeWrites y z v) held

  pub adds_door : (p : PointerValue) (now : List (PointerValue)) → Inserted old.doors p now → AddsFacts i kept (HasDoor p ∷ []) old (record old { doors = now })
  adds_door p now put = record {
    grows = record {
      threads = begins_same old.threads;
      doors = put.begins;
      leaks = begins_same old.leaks;
      stored = begins_same old.stored;
      events = begins_same old.events;
      faulted = begins_same old.faulted;
      resumes = begins_same old.resumes;
      writes = begins_same old.writes;
    };
    holds = one_fact (HasDoor p) (λ c. Holds i kept (record old { doors = now }) c) (put.has);
    sound = λ s all. door_sound p now put s (all (IsFact (HasDoor p)) (in_first (HasDoor p) []));
  }

  -- to the leaks
  leak_sound : (l : Leak) (now : List (Leak)) → Inserted old.leaks l now → IsSound i kept old → Means i kept (IsFact (HasLeak l)) → IsSound i kept (record old { leaks = now })
  leak_sound l now put s m = record { means = sound }
    where
      sound : (claim : Claim) → Holds i kept (record old { leaks = now }) claim → Means i kept claim
      sound (IsFact (HasThread y)) held = s.means (IsFact (HasThread y)) held
      sound (IsFact (HasForm y z)) (inl first) = s.means (IsFact (HasForm y z)) (inl first)
      sound (IsFact (HasForm y z)) (inr held) = s.means (IsFact (HasForm y z)) (inr held)
      sound (IsFact (HasDoor y)) held = s.means (IsFact (HasDoor y)) held
      sound (IsFact (HasEvent y z)) held = s.means (IsFact (HasEvent y z)) held
      sound (IsFact (HasFaulted y z)) held = s.means (IsFact (HasFaulted y z)) held
      sound (IsFact (HasLeak y)) held = elim (put.only y held) [
        | inl early ↦ s.means (IsFact (HasLeak y)) early
        | inr same ↦ subst (λ x. Means i kept (IsFact (HasLeak x))) (sym same) m
      ]
      sound (SomeResumes y z) held = s.means (SomeResumes y z) held
      sound (SomeWrites y z v) held = s.means (SomeWrites y z v) held

  pub adds_leak : (l : Leak) (now : List (Leak)) → Inserted old.leaks l now → AddsFacts i kept (HasLeak l ∷ []) old (record old { leaks = now })
  adds_leak l now put = record {
    grows = record {
      threads = begins_same old.threads;
      doors = begins_same old.doors;
      leaks = put.begins;
      stored = begins_same old.stored;
      events = begins_same old.events;
      faulted = begins_same old.faulted;
      resumes = begins_same old.resumes;
      writes = begins_same old.writes;
    };
    holds = one_fact (HasLeak l) (λ c. Holds i kept (record old { leaks = now }) c) (put.has);
    sound = λ s all. leak_sound l now put s (all (IsFact (HasLeak l)) (in_first (HasLeak l) []));
  }

  -- to the stored
  form_sound : (w : ℕ) (f : Form) (now : List (ℕ × Form)) → Inserted old.stored (w, f) now
      → IsSound i kept old → Means i kept (IsFact (HasForm w f)) → IsSound i kept (record old { stored = now })
  form_sound w f now put s m = record { means = sound }
    where
      sound : (claim : Claim) → Holds i kept (record old { stored = now }) claim → Means i kept claim
      sound (IsFact (HasThread y)) held = s.means (IsFact (HasThread y)) held
      sound (IsFact (HasForm y z)) (inl first) = s.means (IsFact (HasForm y z)) (inl first)
      sound (IsFact (HasForm y z)) (inr held) = elim (put.only (y, z) held) [
        | inl early ↦ s.means (IsFact (HasForm y z)) (inr early)
        | inr same ↦ subst (λ (x : ℕ × Form). Means i kept (IsFact (HasForm x.0 x.1))) (sym same) m
      ]
      sound (IsFact (HasDoor y)) held = s.means (IsFact (HasDoor y)) held
      sound (IsFact (HasEvent y z)) held = s.means (IsFact (HasEvent y z)) held
      sound (IsFact (HasFaulted y z)) held = s.means (IsFact (HasFaulted y z)) held
      sound (IsFact (HasLeak y)) held = s.means (IsFact (HasLeak y)) held
      sound (SomeResumes y z) held = s.means (SomeResumes y z) held
      sound (SomeWrites y z v) held = s.means (SomeWrites y z v) held

  pub adds_form : (w : ℕ) (f : Form) (now : List (ℕ × Form)) → Inserted old.stored (w, f) now → AddsFacts i kept (HasForm w f ∷ []) old (record old { stored = now })
  adds_form w f now put = record {
    grows = record {
      threads = begins_same old.threads;
      doors = begins_same old.doors;
      leaks = begins_same old.leaks;
      stored = put.begins;
      events = begins_same old.events;
      faulted = begins_same old.faulted;
      resumes = begins_same old.resumes;
      writes = begins_same old.writes;
    };
    holds = one_fact (HasForm w f) (λ c. Holds i kept (record old { stored = now }) c) (inr put.has);
    sound = λ s all. form_sound w f now put s (all (IsFact (HasForm w f)) (in_first (HasForm w f) []));
  }

  -- to the events
  event_sound : (h : ℕ) (e : Handling) (now : List (ℕ × Handling)) → Inserted old.events (h, e) now
      → IsSound i kept old → Means i kept (IsFact (HasEvent h e)) → IsSound i kept (record old { events = now })
  event_sound h e now put s m = record { means = sound }
    where
      sound : (claim : Claim) → Holds i kept (record old { events = now }) claim → Means i kept claim
      sound (IsFact (HasThread y)) held = s.means (IsFact (HasThread y)) held
      sound (IsFact (HasForm y z)) (inl first) = s.means (IsFact (HasForm y z)) (inl first)
      sound (IsFact (HasForm y z)) (inr held) = s.means (IsFact (HasForm y z)) (inr held)
      sound (IsFact (HasDoor y)) held = s.means (IsFact (HasDoor y)) held
      sound (IsFact (HasEvent y z)) held = elim (put.only (y, z) held) [
        | inl early ↦ s.means (IsFact (HasEvent y z)) early
        | inr same ↦ subst (λ (x : ℕ × Handling). Means i kept (IsFact (HasEvent x.0 x.1))) (sym same) m
      ]
      sound (IsFact (HasFaulted y z)) held = s.means (IsFact (HasFaulted y z)) held
      sound (IsFact (HasLeak y)) held = s.means (IsFact (HasLeak y)) held
      sound (SomeResumes y z) held = s.means (SomeResumes y z) held
      sound (SomeWrites y z v) held = s.means (SomeWrites y z v) held

  pub adds_event : (h : ℕ) (e : Handling) (now : List (ℕ × Handling)) → Inserted old.events (h, e) now → AddsFacts i kept (HasEvent h e ∷ []) old (record old { events = now })
  adds_event h e now put = record {
    grows = record {
      threads = begins_same old.threads;
      doors = begins_same old.doors;
      leaks = begins_same old.leaks;
      stored = begins_same old.stored;
      events = put.begins;
      faulted = begins_same old.faulted;
      resumes = begins_same old.resumes;
      writes = begins_same old.writes;
    };
    holds = one_fact (HasEvent h e) (λ c. Holds i kept (record old { events = now }) c) (put.has);
    sound = λ s all. event_sound h e now put s (all (IsFact (HasEvent h e)) (in_first (HasEvent h e) []));
  }

  -- to the faulted
  faulted_sound : (h : ℕ) (t : Thread) (now : List (ℕ × Thread)) → Inserted old.faulted (h, t) now
      → IsSound i kept old → Means i kept (IsFact (HasFaulted h t)) → IsSound i kept (record old { faulted = now })
  faulted_sound h t now put s m = record { means = sound }
    where
      sound : (claim : Claim) → Holds i kept (record old { faulted = now }) claim → Means i kept claim
      sound (IsFact (HasThread y)) held = s.means (IsFact (HasThread y)) held
      sound (IsFact (HasForm y z)) (inl first) = s.means (IsFact (HasForm y z)) (inl first)
      sound (IsFact (HasForm y z)) (inr held) = s.means (IsFact (HasForm y z)) (inr held)
      sound (IsFact (HasDoor y)) held = s.means (IsFact (HasDoor y)) held
      sound (IsFact (HasEvent y z)) held = s.means (IsFact (HasEvent y z)) held
      sound (IsFact (HasFaulted y z)) held = elim (put.only (y, z) held) [
        | inl early ↦ s.means (IsFact (HasFaulted y z)) early
        | inr same ↦ subst (λ (x : ℕ × Thread). Means i kept (IsFact (HasFaulted x.0 x.1))) (sym same) m
      ]
      sound (IsFact (HasLeak y)) held = s.means (IsFact (HasLeak y)) held
      sound (SomeResumes y z) held = s.means (SomeResumes y z) held
      sound (SomeWrites y z v) held = s.means (SomeWrites y z v) held

  pub adds_faulted : (h : ℕ) (t : Thread) (now : List (ℕ × Thread)) → Inserted old.faulted (h, t) now → AddsFacts i kept (HasFaulted h t ∷ []) old (record old { faulted = now })
  adds_faulted h t now put = record {
    grows = record {
      threads = begins_same old.threads;
      doors = begins_same old.doors;
      leaks = begins_same old.leaks;
      stored = begins_same old.stored;
      events = begins_same old.events;
      faulted = put.begins;
      resumes = begins_same old.resumes;
      writes = begins_same old.writes;
    };
    holds = one_fact (HasFaulted h t) (λ c. Holds i kept (record old { faulted = now }) c) (put.has);
    sound = λ s all. faulted_sound h t now put s (all (IsFact (HasFaulted h t)) (in_first (HasFaulted h t) []));
  }

  -- to the resumes
  resumes_sound : (h : ℕ) (w : How) (now : List (ℕ × How)) → Inserted old.resumes (h, w) now
      → IsSound i kept old → Means i kept (SomeResumes h w) → IsSound i kept (record old { resumes = now })
  resumes_sound h w now put s m = record { means = sound }
    where
      sound : (claim : Claim) → Holds i kept (record old { resumes = now }) claim → Means i kept claim
      sound (IsFact (HasThread y)) held = s.means (IsFact (HasThread y)) held
      sound (IsFact (HasForm y z)) (inl first) = s.means (IsFact (HasForm y z)) (inl first)
      sound (IsFact (HasForm y z)) (inr held) = s.means (IsFact (HasForm y z)) (inr held)
      sound (IsFact (HasDoor y)) held = s.means (IsFact (HasDoor y)) held
      sound (IsFact (HasEvent y z)) held = s.means (IsFact (HasEvent y z)) held
      sound (IsFact (HasFaulted y z)) held = s.means (IsFact (HasFaulted y z)) held
      sound (IsFact (HasLeak y)) held = s.means (IsFact (HasLeak y)) held
      sound (SomeResumes y z) held = elim (put.only (y, z) held) [
        | inl early ↦ s.means (SomeResumes y z) early
        | inr same ↦ subst (λ (x : ℕ × How). Means i kept (SomeResumes x.0 x.1)) (sym same) m
      ]
      sound (SomeWrites y z v) held = s.means (SomeWrites y z v) held

  pub adds_resumes : (h : ℕ) (w : How) (now : List (ℕ × How)) → Inserted old.resumes (h, w) now → Adds i kept (Only (SomeResumes h w)) old (record old { resumes = now })
  adds_resumes h w now put = record {
    grows = record {
      threads = begins_same old.threads;
      doors = begins_same old.doors;
      leaks = begins_same old.leaks;
      stored = begins_same old.stored;
      events = begins_same old.events;
      faulted = begins_same old.faulted;
      resumes = put.begins;
      writes = begins_same old.writes;
    };
    holds = λ claim same. subst (λ c. Holds i kept (record old { resumes = now }) c) same (put.has);
    sound = λ s all. resumes_sound h w now put s (all (SomeResumes h w) refl);
  }

  -- to the writes
  writes_sound : (h : ℕ) (r : ℕ) (f : Form) (now : List (ℕ × ℕ × Form)) → Inserted old.writes (h, r, f) now
      → IsSound i kept old → Means i kept (SomeWrites h r f) → IsSound i kept (record old { writes = now })
  writes_sound h r f now put s m = record { means = sound }
    where
      sound : (claim : Claim) → Holds i kept (record old { writes = now }) claim → Means i kept claim
      sound (IsFact (HasThread y)) held = s.means (IsFact (HasThread y)) held
      sound (IsFact (HasForm y z)) (inl first) = s.means (IsFact (HasForm y z)) (inl first)
      sound (IsFact (HasForm y z)) (inr held) = s.means (IsFact (HasForm y z)) (inr held)
      sound (IsFact (HasDoor y)) held = s.means (IsFact (HasDoor y)) held
      sound (IsFact (HasEvent y z)) held = s.means (IsFact (HasEvent y z)) held
      sound (IsFact (HasFaulted y z)) held = s.means (IsFact (HasFaulted y z)) held
      sound (IsFact (HasLeak y)) held = s.means (IsFact (HasLeak y)) held
      sound (SomeResumes y z) held = s.means (SomeResumes y z) held
      sound (SomeWrites y z v) held = elim (put.only (y, z, v) held) [
        | inl early ↦ s.means (SomeWrites y z v) early
        | inr same ↦ subst (λ (x : ℕ × ℕ × Form). Means i kept (SomeWrites x.0 x.1 x.2)) (sym same) m
      ]

  pub adds_writes : (h : ℕ) (r : ℕ) (f : Form) (now : List (ℕ × ℕ × Form)) → Inserted old.writes (h, r, f) now → Adds i kept (Only (SomeWrites h r f)) old (record old { writes = now })
  adds_writes h r f now put = record {
    grows = record {
      threads = begins_same old.threads;
      doors = begins_same old.doors;
      leaks = begins_same old.leaks;
      stored = begins_same old.stored;
      events = begins_same old.events;
      faulted = begins_same old.faulted;
      resumes = begins_same old.resumes;
      writes = put.begins;
    };
    holds = λ claim same. subst (λ c. Holds i kept (record old { writes = now }) c) same (put.has);
    sound = λ s all. writes_sound h r f now put s (all (SomeWrites h r f) refl);
  }
