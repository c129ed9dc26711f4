mod Veils
