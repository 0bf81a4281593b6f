use Rattle.dpi_wrapper.specs.code.Reading.{candidate_of}
use Rattle.dpi_wrapper.proofs.reading.candidate.Goals as goal

pub returns : goal.returns
unfolding candidate_of
returns c =
    rw (
      c.in_ok-rest.ensures,
      c.in_ok-digest.ensures,
      c.in_ok-rest-2.ensures,
      c.in_ok-ports.ensures,
      c.in_ok-rows.ensures,
      c.in_ok-rest-3.ensures,
      c.in_ok-name.ensures,
    )
    (cc (c.in_ok-name-2.ensures, c.from_vec.ensures, c.from_vec-2.ensures))
