mod Breaches
