use Rattle.mm_object.proofs.fits.is_object.Goals as goal

pub returns-then-spare-le-SPARE_LIMIT : goal.returns-then-spare-le-SPARE_LIMIT
returns-then-spare-le-SPARE_LIMIT c = (
  λ t.
      let names = c.names_fit.ensures.fit.0 c.if-not-names_fit.false in
      let pointers = c.pointers_fit.ensures.0 t in
      record {
        few_segments = names.own.few;
        segments = names.own.each;
        names = names.own.names;
        few_words = names.own.words;
        few_externals = names.foreign.few;
        externals = names.foreign.names;
        rising = names.foreign.rising;
        foreign = names.foreign.foreign;
        used = pointers.used;
        few_relocs = pointers.words.few;
        relocs = pointers.words.each;
        in_order = pointers.words.in_order;
        few_threads = pointers.starts.few;
        threads = pointers.starts.each;
        whole = pointers.whole.whole;
        slots = pointers.starts.slots;
        integers = pointers.whole.integers;
        few_spare = c.if-spare-le-SPARE_LIMIT.true;
      },
  λ o. c.pointers_fit.ensures.1 (record {
    words = record { few = o.few_relocs; each = o.relocs; in_order = o.in_order };
    starts = record { few = o.few_threads; each = o.threads; slots = o.slots };
    whole = record { whole = o.whole; integers = o.integers };
    used = o.used;
  }),
)
