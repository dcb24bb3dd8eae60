-- Typed writers cut at whole elements, and what one writes reads back, by the laws of `rfc`.
-- Assumes nothing.
use Rattle.rfc.proofs.Typed.{whole_elements, parts_listed, parts_bytes}
use Rattle.rfc.proofs.Written.{written, nothing_put, put_nothing}
use Rattle.rfc.proofs.Readback.{reads_back, closed_back}
use Rattle.promises.specs.Writing.{WholeElements, MostInAPart, TypedReadsBack, ClosedReadsBack, WritesNothing}

pub whole_parts : WholeElements
whole_parts kind h = whole_elements kind h

pub most_in_a_part : MostInAPart
most_in_a_part = (parts_listed.0, parts_listed.1, parts_listed.2, parts_bytes.1)

pub typed_reads_back : TypedReadsBack
typed_reads_back mode code value room place to join proper answered some apart joins =
    reads_back (written code value room place to answered) proper mode join some apart joins

pub closed_reads_back : ClosedReadsBack
closed_reads_back mode code value room place to closed join proper answered some joins ended =
    closed_back (written code value room place to answered) proper mode join closed some joins ended

pub writes_nothing : WritesNothing
writes_nothing code value room place to proper answered =
    let w = written code value room place to answered in (nothing_put w proper, put_nothing w proper)
