-- `overload` meets its contract, check by check.
-- Assumes nothing.
use Rattle.std.proofs.Common.{rules}
use Rattle.aggregate.proofs.Overloaded.{options_told}
use Rattle.aggregate.proofs.Overloading.{unread_so, clear, cut_so, counts_of, unclear_so, field_so, given_so}
use Rattle.aggregate.proofs.fields.overload.Goals as goal

pub returns-in_err-check_read : goal.returns-in_err-check_read
returns-in_err-check_read c = search (rules, unread_so)

pub returns-in_err-counted : goal.returns-in_err-counted
returns-in_err-counted c =
    let m = c.args.message.now in
    let there = c.in_ok-check_read.ensures in
    let so = cut_so m there (options_told m (clear m there) c.options_start.ensures c.none.ensures c.in_err-counted.ensures) in
    search rules

pub overload_byte-requires : goal.overload_byte-requires
overload_byte-requires c =
    let m = c.args.message.now in
    let there = c.in_ok-check_read.ensures in
    counts_of m there (options_told m (clear m there) c.options_start.ensures c.none.ensures c.in_ok-counted.ensures)

pub returns-in_err-named : goal.returns-in_err-named
returns-in_err-named c =
    let m = c.args.message.now in
    let there = c.in_ok-check_read.ensures in
    let counts = options_told m (clear m there) c.options_start.ensures c.none.ensures c.in_ok-counted.ensures in
    let so = unclear_so m there counts c.in_err-named.ensures in
    search rules

pub returns-in_err-check_named : goal.returns-in_err-check_named
returns-in_err-check_named c =
    let m = c.args.message.now in
    let there = c.in_ok-check_read.ensures in
    let counts = options_told m (clear m there) c.options_start.ensures c.none.ensures c.in_ok-counted.ensures in
    let so = field_so m there counts c.in_ok-named.ensures c.in_err-check_named.ensures in
    search rules

pub returns : goal.returns
returns c =
    let m = c.args.message.now in
    let there = c.in_ok-check_read.ensures in
    let counts = options_told m (clear m there) c.options_start.ensures c.none.ensures c.in_ok-counted.ensures in
    given_so m there counts c.in_ok-named.ensures c.in_ok-check_named.ensures
