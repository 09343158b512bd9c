use Rattle.report_printer.proofs.printing.write_all.Goals as goal
