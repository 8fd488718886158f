use Rattle.sexpr.proofs.Words.{word_more}
use Rattle.sexpr.proofs.bytes.first_word.Goals as goal

pub loop-byte-preserved : goal.loop-byte-preserved
loop-byte-preserved c =
    word_more c.args.bytes.now _ _ _ c.word_len.result c.loop-byte.byte-index _ c.word_len.ensures c.loop-byte-test.true c.loop-byte.invariant c.to_ascii_lowercase.ensures.value c.in_ok-push.ensures.ascii c.in_ok-push.ensures.bytes
