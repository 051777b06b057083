-- The example is legal, event by event.
use Rattle.std.proofs.Common.{lit<, refl}
use Rattle.io_rules.specs.Example.{ExampleIsLegal, accepting, closing, reading, small}
use Rattle.io_rules.specs.Legal.{IsLegal}

accepts : IsLegal small accepting
accepts = (
  record {
    going = refl;
    allowed = refl;
    numbers = lit< tt;
    ready = refl;
    next = tt;
    names = record { strand = refl; timer = refl; slot = refl; stream = refl };
  },
  (
    record { going = refl; completes = record { first = refl; same_code = refl; same_size = refl } },
    (
      record { going = refl; named = refl; out = refl; fit = refl },
      (
        record { going = refl; allowed = refl; is_open = refl; back = refl; head = refl; place = refl },
        (
          record {
            going = refl;
            number = refl;
            names = refl;
            allowed = record { room = lit< tt; numbers = lit< tt; there = refl };
            within = tt;
          },
          (record { going = refl; caller = tt; allowed = refl }, tt),
        ),
      ),
    ),
  ),
)

reads : IsLegal small reading
reads = (
  record {
    going = refl;
    allowed = refl;
    numbers = lit< tt;
    ready = refl;
    next = record { alone = refl; first = refl };
    names = record { strand = refl; timer = refl; slot = refl; stream = refl };
  },
  (
    record { going = refl; completes = record { first = refl; same_code = refl; same_size = refl } },
    (
      record { going = refl; named = refl; out = refl; fit = refl },
      (
        record { going = refl; allowed = refl; is_open = refl; back = refl; head = refl; place = refl },
        (
          record { going = refl; runs = refl; returned = refl },
          (
            record { going = refl; number = refl; names = refl; allowed = refl; within = tt },
            (
              record { going = refl; number = refl; names = refl; allowed = refl; within = tt },
              (
                record { going = refl; caller = refl; allowed = tt },
                (
                  record { going = refl; caller = refl; allowed = refl },
                  (record { going = refl; caller = refl; allowed = refl }, accepts),
                ),
              ),
            ),
          ),
        ),
      ),
    ),
  ),
)

closes : IsLegal small closing
closes = (
  record { going = refl; completes = record { first = refl; same_code = refl; same_size = refl } },
  (
    record { going = refl; completes = record { first = refl; same_code = refl; same_size = refl } },
    (
      record { going = refl; caller = refl; allowed = tt },
      (
        record { going = refl; caller = refl; allowed = tt },
        (
          record {
            going = refl;
            allowed = refl;
            numbers = lit< tt;
            ready = refl;
            next = record { alone = refl; first = refl };
            names = record { strand = refl; timer = refl; slot = refl; stream = refl };
          },
          (
            record { going = refl; runs = refl; returned = refl },
            (
              record { going = refl; number = refl; names = refl; allowed = refl; within = tt },
              (record { going = refl; number = refl; names = refl; allowed = refl; within = tt }, reads),
            ),
          ),
        ),
      ),
    ),
  ),
)

pub example_is_legal : ExampleIsLegal
example_is_legal = record {
  legal = (
    record { finishing = refl; least = refl; returned = refl },
    (
      record { going = refl; handlers = refl; sockets = refl },
      (
        record { going = refl; over = refl },
        (
          record { going = refl; caller = tt; allowed = tt },
          (
            record {
              going = refl;
              number = refl;
              names = refl;
              allowed = record { room = lit< tt; numbers = lit< tt; there = refl };
              within = tt;
            },
            (
              record { going = refl; runs = refl; returned = refl },
              (
                record { going = refl; caller = refl; allowed = tt },
                (
                  record {
                    going = refl;
                    allowed = refl;
                    numbers = lit< tt;
                    ready = refl;
                    next = record { alone = refl; first = refl };
                    names = record { strand = refl; timer = refl; slot = refl; stream = refl };
                  },
                  (
                    record { going = refl; runs = refl; returned = refl },
                    (
                      record {
                        going = refl;
                        allowed = refl;
                        numbers = lit< tt;
                        ready = refl;
                        next = record { alone = refl; first = refl };
                        names = record { strand = refl; timer = refl; slot = refl; stream = refl };
                      },
                      (record { going = refl; runs = refl; returned = refl }, closes),
                    ),
                  ),
                ),
              ),
            ),
          ),
        ),
      ),
    ),
  );
  whole = record { finishing = refl; spent = refl };
}
