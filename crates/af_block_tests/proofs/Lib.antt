mod Relayed
